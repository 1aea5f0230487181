use Rattle.scholten_core.proofs.Words.{◌∙◌, subst, IsLawful, Deliver}
use Rattle.scholten_core.proofs.CoreSteps.{deliver_leaves, reached_step, busy_in, busy_head, told_at, arrived_held}
use Rattle.scholten_core.proofs.running.Core.deliver.Goals as goal

pub head-v-requires-after_bounds : goal.head-v-requires-after_bounds
head-v-requires-after_bounds g c κs within =
    busy_in g.A.PathAlgebra.meaning c.self.inside.tables c.args.a
    (subst (λ a. IsLawful (g.A.PathAlgebra.meaning a)) c.algebra.ensures.algebra c.laws_hold.ensures.lawful) c.self.invariant
    (λ z. let q = c.in-Message.ensures in cc)

pub take_message-requires-clause-vertex : goal.take_message-requires-clause-vertex
take_message-requires-clause-vertex g c κs within = (
  busy_head g.A.PathAlgebra.meaning c.self.inside.tables c.args.a c.head-v.result
      (subst (λ a. IsLawful (g.A.PathAlgebra.meaning a)) c.algebra.ensures.algebra c.laws_hold.ensures.lawful) c.self.invariant
      (λ z. let q = c.in-Message.ensures in cc) c.head-v.ensures.head,
  c.head-v.ensures.within,
)

pub take_message-requires-clause-told : goal.take_message-requires-clause-told
take_message-requires-clause-told g c κs within = told_at g.A.PathAlgebra.meaning c.self.inside.tables
    (subst (λ a. IsLawful (g.A.PathAlgebra.meaning a)) c.algebra.ensures.algebra c.laws_hold.ensures.lawful) c.self.invariant

pub rest-requires-clause-held : goal.rest-requires-clause-held
rest-requires-clause-held g c κs within =
    arrived_held g.A.PathAlgebra.meaning c.self.inside.tables c.take_message.new.self c.args.a c.head-v.result c.in-Message.value
    (subst (λ a. IsLawful (g.A.PathAlgebra.meaning a)) c.algebra.ensures.algebra c.laws_hold.ensures.lawful) c.self.invariant
    c.in-Message.ensures c.head-v.ensures.head c.take_message.ensures.state

pub invariant_of-self : goal.invariant_of-self
invariant_of-self g c =
    reached_step g.A.PathAlgebra.meaning c.self.inside.tables c.rest.new.self (Deliver c.args.a) c.self.invariant (c.rest.ensures.same ∙ c.take_message.ensures.same)
    (deliver_leaves g.A.PathAlgebra.meaning c.self.inside.tables c.take_message.new.self c.rest.new.self c.args.a c.head-v.result c.in-Message.value c.take_message.ensures.same
    c.in-Message.ensures c.head-v.ensures.head c.take_message.ensures.state c.rest.ensures.state)

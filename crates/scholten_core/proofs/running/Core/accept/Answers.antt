use Rattle.scholten_core.proofs.Words.{◌≡◌, ap, ◌∙◌, sym, subst, arith, IsLawful, Accept, network_of, state_of, is_signal, step}
use Rattle.scholten_core.proofs.GraphReads.{is_entry, not_entry}
use Rattle.scholten_core.proofs.CoreSteps.{accept_leaves, accept_entry_leaves, reached_step, busy_in, busy_tail, told_at, freed_held}
use Rattle.scholten_core.proofs.running.Core.accept.Goals as goal

pub tail-v-requires-after_bounds : goal.tail-v-requires-after_bounds
tail-v-requires-after_bounds g c κs within =
    busy_in g.A.PathAlgebra.meaning c.self.inside.tables c.args.a
    (subst (λ a. IsLawful (g.A.PathAlgebra.meaning a)) c.algebra.ensures.algebra c.laws_hold.ensures.lawful) c.self.invariant
    (λ z. let q = c.in-Signal.ensures in cc)

pub invariant_of-self : goal.invariant_of-self
invariant_of-self g c =
    reached_step g.A.PathAlgebra.meaning c.self.inside.tables c.free.new.self (Accept c.args.a) c.self.invariant c.free.ensures.same
    (accept_entry_leaves g.A.PathAlgebra.meaning c.self.inside.tables c.free.new.self c.args.a c.in-Signal.ensures (is_entry c.args.a c.eq.result c.eq.ensures c.if-eq.true) c.free.ensures.state)

pub take_signal-requires-clause-vertex : goal.take_signal-requires-clause-vertex
take_signal-requires-clause-vertex g c κs within =
    let low = not_entry c.args.a c.eq.result c.eq.ensures c.if-eq.false in (
      busy_tail g.A.PathAlgebra.meaning c.self.inside.tables c.args.a c.tail-v.result
          (subst (λ a. IsLawful (g.A.PathAlgebra.meaning a)) c.algebra.ensures.algebra c.laws_hold.ensures.lawful) c.self.invariant
          (λ z. let q = c.in-Signal.ensures in cc) (λ z. omega (arith, low, z)) c.tail-v.ensures.tail,
      c.tail-v.ensures.within,
    )

pub take_signal-requires-clause-told : goal.take_signal-requires-clause-told
take_signal-requires-clause-told g c κs within = told_at g.A.PathAlgebra.meaning c.self.inside.tables
    (subst (λ a. IsLawful (g.A.PathAlgebra.meaning a)) c.algebra.ensures.algebra c.laws_hold.ensures.lawful) c.self.invariant

pub rest-requires-clause-held : goal.rest-requires-clause-held
rest-requires-clause-held g c κs within =
    freed_held g.A.PathAlgebra.meaning c.self.inside.tables c.take_signal.new.self c.args.a c.tail-v.result
    (subst (λ a. IsLawful (g.A.PathAlgebra.meaning a)) c.algebra.ensures.algebra c.laws_hold.ensures.lawful) c.self.invariant c.in-Signal.ensures
    c.take_signal.ensures.state

pub invariant_of-self-else-eq : goal.invariant_of-self-else-eq
invariant_of-self-else-eq g c =
    reached_step g.A.PathAlgebra.meaning c.self.inside.tables c.rest.new.self (Accept c.args.a) c.self.invariant (c.rest.ensures.same ∙ c.take_signal.ensures.same)
    (accept_leaves g.A.PathAlgebra.meaning c.self.inside.tables c.take_signal.new.self c.rest.new.self c.args.a c.tail-v.result c.take_signal.ensures.same
    c.in-Signal.ensures (not_entry c.args.a c.eq.result c.eq.ensures c.if-eq.false) c.tail-v.ensures.tail c.take_signal.ensures.state c.rest.ensures.state)

pub returns-else-eq-clause-done : goal.returns-else-eq-clause-done
returns-else-eq-clause-done g c = (
  ap (λ u. is_signal ((state_of u).token c.args.a)) (sym c.self.view_is) ∙ ap is_signal (sym c.in-Signal.ensures),
  subst (λ u. state_of c.rest.new.self ≡ step (g.A.PathAlgebra.meaning u.diffusion.algebra) (network_of u) (state_of u) (Accept c.args.a)) c.self.view_is
      (accept_leaves g.A.PathAlgebra.meaning c.self.inside.tables c.take_signal.new.self c.rest.new.self c.args.a c.tail-v.result c.take_signal.ensures.same
      c.in-Signal.ensures (not_entry c.args.a c.eq.result c.eq.ensures c.if-eq.false) c.tail-v.ensures.tail c.take_signal.ensures.state c.rest.ensures.state),
)

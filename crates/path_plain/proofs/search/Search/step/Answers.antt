use Rattle.std.proofs.lemmas.Result.{IfOk-weaker}
use Rattle.path_plain.proofs.Running.{stepped, stops}
use Rattle.path_plain.proofs.search.Search.step.Goals as goal

pub returns-then-is_past_any-clause-steps : goal.returns-then-is_past_any-clause-steps
returns-then-is_past_any-clause-steps g c =
    stops g.A.PathAlgebra.meaning g.A.PathAlgebra.order c.args.self.now c.self.inside.algebra (λ i. (c.self.view_is i).algebra)
    c.laws_hold.ensures.lawful c.laws_hold.ensures.order (rw c.requires.graph at c.holds.ensures) c.args.target.now c.requires.target (c.is_past_any.ensures c.if-is_past_any.true)

pub returns-clause-steps : goal.returns-clause-steps
returns-clause-steps g c =
    IfOk-weaker c.settle_next.result _ _
    (λ more step. stepped g.A.PathAlgebra.meaning g.A.PathAlgebra.order c.args.self.now c.self.inside.algebra (λ i. (c.self.view_is i).algebra)
    c.laws_hold.ensures.lawful c.laws_hold.ensures.order (rw c.requires.graph at c.holds.ensures) c.settle_next.new.self c.args.target.now more c.requires.target step)
    c.settle_next.ensures.advances

use Rattle.path_plain.proofs.Running.{of_same, stays, nearer, runs_on}
use Rattle.path_plain.proofs.search.Search.run.Goals as goal

pub loop-smaller : goal.loop-smaller
loop-smaller g c =
    nearer g.A.PathAlgebra.meaning g.A.PathAlgebra.order c.args.self.now c.self.inside.algebra (λ i. (c.self.view_is i).algebra)
    c.laws_hold.ensures.lawful c.laws_hold.ensures.order (rw c.requires.graph at c.holds.ensures) c.loop.self c.step.new.self c.loop.invariant.of_same
    (rw c.if-branch.true at c.in_ok-step.ensures.steps)

pub loop-preserved : goal.loop-preserved
loop-preserved g c =
    record {
      of_same = of_same c.args.self.now c.loop.self c.step.new.self c.loop.invariant.of_same c.step.ensures.of_same;
      between = stays g.A.PathAlgebra.meaning g.A.PathAlgebra.order c.args.self.now c.self.inside.algebra (λ i. (c.self.view_is i).algebra)
          c.laws_hold.ensures.lawful c.laws_hold.ensures.order (rw c.requires.graph at c.holds.ensures) c.loop.self c.step.new.self c.loop.invariant.of_same
          c.loop.invariant.between (rw c.if-branch.true at c.in_ok-step.ensures.steps);
    }

pub returns-clause-runs : goal.returns-clause-runs
returns-clause-runs g c =
    runs_on g.A.PathAlgebra.meaning g.A.PathAlgebra.order c.args.self.now c.self.inside.algebra (λ i. (c.self.view_is i).algebra)
    c.laws_hold.ensures.lawful c.laws_hold.ensures.order (rw c.requires.graph at c.holds.ensures) c.loop.self c.step.new.self c.loop.invariant.of_same
    c.args.target c.loop.invariant.between (rw c.if-branch.false at c.in_ok-step.ensures.steps)

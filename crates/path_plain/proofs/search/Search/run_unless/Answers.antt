use Rattle.path_plain.proofs.Words.{refl, Some}
use Rattle.path_plain.proofs.Running.{of_same, stays, nearer, runs_on}
use Rattle.path_plain.proofs.search.Search.run_unless.Goals as goal

pub loop-halt-smaller : goal.loop-halt-smaller
loop-halt-smaller g c =
    nearer g.A.PathAlgebra.meaning g.A.PathAlgebra.order c.args.self.now c.self.inside.algebra (λ i. (c.self.view_is i).algebra)
    c.laws_hold.ensures.lawful c.laws_hold.ensures.order (rw c.requires.graph at c.holds.ensures) c.loop-halt.self c.step.new.self c.loop-halt.invariant.of_same
    (rw c.if-branch.true at c.in_ok-step.ensures.steps)

pub loop-halt-preserved : goal.loop-halt-preserved
loop-halt-preserved g c =
    record {
      of_same = of_same c.args.self.now c.loop-halt.self c.step.new.self c.loop-halt.invariant.of_same c.step.ensures.of_same;
      between = stays g.A.PathAlgebra.meaning g.A.PathAlgebra.order c.args.self.now c.self.inside.algebra (λ i. (c.self.view_is i).algebra)
          c.laws_hold.ensures.lawful c.laws_hold.ensures.order (rw c.requires.graph at c.holds.ensures) c.loop-halt.self c.step.new.self c.loop-halt.invariant.of_same
          c.loop-halt.invariant.between (rw c.if-branch.true at c.in_ok-step.ensures.steps);
      target = refl;
      halt = λ can. c.loop-halt.invariant.halt (c.is_due.ensures.kind.0 can);
    }

-- A must-fail edit breaks this goal: with an answer it is refused at once.
pub returns-then-is_due-clause-runs : goal.returns-then-is_due-clause-runs
returns-then-is_due-clause-runs g c =
    stays g.A.PathAlgebra.meaning g.A.PathAlgebra.order c.args.self.now c.self.inside.algebra (λ i. (c.self.view_is i).algebra)
    c.laws_hold.ensures.lawful c.laws_hold.ensures.order (rw c.requires.graph at c.holds.ensures) c.loop-halt.self c.step.new.self c.loop-halt.invariant.of_same
    c.loop-halt.invariant.between (rw c.if-branch.true at c.in_ok-step.ensures.steps)

pub returns-clause-runs : goal.returns-clause-runs
returns-clause-runs g c =
    runs_on g.A.PathAlgebra.meaning g.A.PathAlgebra.order c.args.self.now c.self.inside.algebra (λ i. (c.self.view_is i).algebra)
    c.laws_hold.ensures.lawful c.laws_hold.ensures.order (rw c.requires.graph at c.holds.ensures) c.loop-halt.self c.step.new.self c.loop-halt.invariant.of_same
    (Some c.args.target) c.loop-halt.invariant.between (rw c.if-branch.false at c.in_ok-step.ensures.steps)

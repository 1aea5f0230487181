use Rattle.post_floor.specs.Data.{IsAt}
use Rattle.engine_trials.proofs.mailboxes.turns.assert_steps.Given as goal

abbrev pub invariant-loop-i : goal.invariant-loop-i
invariant-loop-i g l = IsAt g.A.PathAlgebra.meaning l.floor l.seat l.part

use Rattle.post_floor.specs.Data.{IsAt}
use Rattle.engine_trials.proofs.mailboxes.turns.assert_turns.Given as goal

abbrev pub invariant-loop-steps : goal.invariant-loop-steps
invariant-loop-steps g l = record {
  next : IsAt g.A.PathAlgebra.meaning l.floor l.next.0 l.next.1;
  other : IsAt g.A.PathAlgebra.meaning l.floor l.other.0 l.other.1;
}

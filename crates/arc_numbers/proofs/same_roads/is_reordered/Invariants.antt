use Rattle.arc_numbers.proofs.Words.{ℕ, ◌≤◌, HasSameRoads}
use Rattle.arc_numbers.proofs.same_roads.is_reordered.Given as goal

abbrev pub invariant-loop-i : goal.invariant-loop-i
invariant-loop-i l = (v : ℕ) → 1 ≤ v → v ≤ l.i → HasSameRoads l.graph l.other v

use Rattle.path_factors.proofs.Words.{◌≡◌, ◌-◌, ◌≤◌, length}
use Rattle.path_factors.proofs.FewWeights.{IsMarkedTo}
use Rattle.path_factors.proofs.factors.Factors.mark_up.Given as goal

abbrev pub invariant-loop-v : goal.invariant-loop-v
invariant-loop-v g l = record {
  count : length l.marks ≡ l.self.roads.vertices;
  inside : l.v ≤ l.self.roads.vertices;
  marked : IsMarkedTo l.self.heads l.fn.marks l.marks l.place l.v;
}

abbrev pub decreases-loop-v : goal.decreases-loop-v
decreases-loop-v g l = l.self.roads.vertices - l.v

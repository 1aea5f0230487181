use Rattle.path_factors.proofs.Words.{◌≡◌, ◌-◌, ◌≤◌, length, AreOnlyUp}
use Rattle.path_factors.proofs.factors.Factors.clear_up.Given as goal

abbrev pub invariant-loop-v : goal.invariant-loop-v
invariant-loop-v g l = record {
  count : length l.labels ≡ l.self.roads.vertices;
  inside : l.v ≤ l.self.roads.vertices;
  up : AreOnlyUp l.self.heads l.self.roads.vertices l.v l.labels;
}

abbrev pub decreases-loop-v : goal.decreases-loop-v
decreases-loop-v g l = l.self.roads.vertices - l.v

use Rattle.path_factors.proofs.Words.{◌≡◌, ◌-◌, ℕ, ◌≤◌, List, ◌++◌, AreUnknownUp}
use Rattle.path_factors.proofs.factors.Factors.list_unknown.Given as goal

abbrev pub invariant-loop-v : goal.invariant-loop-v
invariant-loop-v g l = record {
  inside : l.v ≤ l.self.roads.vertices;
  listed : (list : List ℕ) × (l.asked.items ≡ l.fn.asked.items ++ list) × AreUnknownUp l.self.heads l.self.roads.vertices l.known l.t list l.v;
}

abbrev pub decreases-loop-v : goal.decreases-loop-v
decreases-loop-v g l = l.self.roads.vertices - l.v

use Rattle.path_factors.proofs.Words.{◌≡◌, ◌-◌, ℕ, ◌≤◌, List, length, IsForwardTo}
use Rattle.path_factors.proofs.Climbing.{IsClimbedTo}
use Rattle.path_factors.proofs.factors.Factors.climb.Given as goal

abbrev pub invariant-loop-v : goal.invariant-loop-v
invariant-loop-v g l = record {
  count : length l.labels ≡ l.self.roads.vertices;
  inside : l.v ≤ l.self.roads.vertices;
  climbed : IsClimbedTo l.self.heads l.self.roads.vertices l.s l.v l.labels;
  forward : (sources : List ℕ) →
      IsForwardTo (g.A.PathAlgebra.meaning l.self.algebra) (g.A.ComposingAlgebra.walks l.self.algebra) l.self.roads l.self.factor sources 0 l.fn.labels →
      IsForwardTo (g.A.PathAlgebra.meaning l.self.algebra) (g.A.ComposingAlgebra.walks l.self.algebra) l.self.roads l.self.factor sources l.v l.labels;
}

abbrev pub decreases-loop-v : goal.decreases-loop-v
decreases-loop-v g l = l.self.roads.vertices - l.v

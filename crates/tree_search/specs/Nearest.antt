-- The vertices that are reached from some sources, the nearest first.
use Rattle.std.specs.Prelude.{◌≡◌, ◌↔◌, ℕ, List, Contains, AllPairs, IsTrue}
use Rattle.road_graph.specs.GraphData.{GraphData, HasVertex}
use Rattle.path_algebra.specs.Algebra.{Algebra}
use Rattle.path_algebra.specs.Walks.{IsBest, IsWalkValue}

-- each vertex that some walk with a value leads to is on the list, once, and no other; values never
-- get better along the list
pub record AreNearest {V : Type 0} (A : Algebra V) (g : GraphData) (sources list : List ℕ) : Type 0 where
  pub reached : (v : ℕ) → Contains list v ↔ (HasVertex g v × ((x : V) × IsWalkValue A g sources v x))
  pub once : AllPairs (λ u v. u ≡ v → ⊥) list
  pub best_first : AllPairs (λ u v. (x y : V) → IsBest A g sources u x → IsBest A g sources v y → IsTrue (A.no_worse x y)) list

-- The best of the roads out of a vertex, among those that lead to another.
use Rattle.std.specs.Prelude.{◌≡◌, ℕ, ◌<◌, ◌≤◌, List, Bool, Option, Some, None, IsTrue, if◌then◌else◌, slice_index_or}
use Rattle.road_graph.specs.declared.OutRoad.{OutRoad}
use Rattle.path_algebra.specs.Algebra.{Algebra}

-- the road leads to v, and takes the value x to y
abbrev pub LeadsTo : {V : Type 0} → Algebra V → V → ℕ → OutRoad → V → Type 0
LeadsTo A x v r y = (r.head ≡ v) × (A.extend x r.weight ≡ Some y)

-- the road at an index
abbrev pub road_at : List OutRoad → ℕ → OutRoad
road_at roads k = slice_index_or roads k (record { head = 0; weight = 0 })

-- of the first n roads, that at this index is the first of those that take x to the best value at v
pub record IsBestRoad {V : Type 0} (A : Algebra V) (x : V) (v : ℕ) (roads : List OutRoad) (n index : ℕ) (y : V) : Type 0 where
  pub below : index < n
  pub leads : LeadsTo A x v (road_at roads index) y
  pub best : (k : ℕ) → k < n → (z : V) → LeadsTo A x v (road_at roads k) z → IsTrue (A.no_worse y z)
  pub first : (k : ℕ) → k < n → LeadsTo A x v (road_at roads k) y → index ≤ k

-- the first of the best of the first n roads; none if none of them takes x to a value at v
abbrev pub IsBestRoadOrNone : {V : Type 0} → Algebra V → V → ℕ → List OutRoad → ℕ → Option (ℕ × V) → Type 0
IsBestRoadOrNone {V} A x v roads n None = (k : ℕ) → k < n → (y : V) → LeadsTo A x v (road_at roads k) y → ⊥
IsBestRoadOrNone A x v roads n (Some s) = IsBestRoad A x v roads n s.0 s.1

-- the best road after one more, whose extension this is: of two that tie the first
abbrev pub better_road : {V : Type 0} → (V → V → Bool) → Option (ℕ × V) → ℕ → Option V → Option (ℕ × V)
better_road no_worse best k None = best
better_road no_worse None k (Some y) = Some (k, y)
better_road no_worse (Some s) k (Some y) = Some (if no_worse s.1 y then s else (k, y))

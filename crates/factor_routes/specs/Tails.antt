-- Steps back along numbers that add up.
use Rattle.std.specs.Prelude.{◌≡◌, ℕ, ◌+◌, ◌==◌, nat_le, if◌then◌else◌, List, [], ◌∷◌, Option, Some, None}
use Rattle.road_graph.specs.GraphData.{GraphData}
use Rattle.road_graph.specs.declared.OutRoad.{OutRoad}
use Rattle.path_algebra.specs.Counted.{counted_cost, IsCountedParent, IsCountedStepOf}

-- the one with the lesser vertex, the only one, or none, of vertices with their numbers
abbrev pub lesser : Option (ℕ × ℕ) → Option (ℕ × ℕ) → Option (ℕ × ℕ)
lesser None b = b
lesser (Some a) None = Some a
lesser (Some a) (Some b) = Some (if nat_le a.0 b.0 then a else b)

-- the tail of an arc and its number, if that and what the arc adds are y; the road is the arc
-- reversed
abbrev pub adding_up : (ℕ → ℕ) → ℕ → ℕ → OutRoad → Option ℕ → Option (ℕ × ℕ)
adding_up cost k y road None = None
adding_up cost k y road (Some x) = if x + counted_cost cost k road.weight == y then Some (road.head, x) else None

-- the least vertex from which an arc adds up to the number y of v, with its number; none if there
-- is no such vertex
abbrev pub IsLeastTail : GraphData → (ℕ → ℕ) → ℕ → (ℕ → Option ℕ) → ℕ → ℕ → Option (ℕ × ℕ) → Type 0
IsLeastTail g cost k number v y None = (u : ℕ) → IsCountedStepOf g cost k number v y u → ⊥
IsLeastTail g cost k number v y (Some tail) =
    (number tail.0 ≡ Some tail.1) × IsCountedParent g cost k number v y tail.0

-- each vertex is the least from which an arc adds up to the number of the next, from u on to v
abbrev pub IsCountedChain : GraphData → (ℕ → ℕ) → ℕ → (ℕ → Option ℕ) → ℕ → List ℕ → ℕ → Type 0
IsCountedChain g cost k number u [] v = u ≡ v
IsCountedChain g cost k number u (w ∷ rest) v =
    ((y : ℕ) × (number w ≡ Some y) × IsCountedParent g cost k number w y u) × IsCountedChain g cost k number w rest v

-- such a list from a vertex that no arc adds up to, on to v
pub record IsCountedRoute (g : GraphData) (cost : ℕ → ℕ) (k : ℕ) (number : ℕ → Option ℕ) (v : ℕ) (list : List ℕ) : Type 0 where
  pub first : ℕ
  pub rest : List ℕ
  pub is : list ≡ first ∷ rest
  pub begins : (x : ℕ) × (number first ≡ Some x) × ((u : ℕ) → IsCountedStepOf g cost k number first x u → ⊥)
  pub chain : IsCountedChain g cost k number first rest v

-- What a status means, and what is written with it.
use Rattle.std.specs.Prelude.{◌≡◌, ◌↔◌, ℕ, ◌+◌, ◌⊎◌, [], ◌∷◌, List, ℤ, pos, length, take}
use Rattle.road_graph.specs.GraphData.{GraphData, HasVertex}
use Rattle.path_algebra.specs.Algebra.{Algebra}
use Rattle.path_algebra.specs.Choices.{IsAlgebra}
use Rattle.path_algebra.specs.Walks.{IsBestCode, AreHops, IsUnreached}
use Rattle.route_tree.specs.Found.{IsRouteBetween}

-- the status is one of these
abbrev pub IsOneOf : List ℕ → ℤ → Type 0
IsOneOf [] status = ⊥
IsOneOf (n ∷ ns) status = (status ≡ pos n) ⊎ IsOneOf ns status

-- each list has a place for each of n vertices
abbrev pub HavePlaces : ℕ → List ℕ → List ℕ → List ℕ → Type 0
HavePlaces n codes hops parents = (length codes ≡ n) × (length hops ≡ n) × (length parents ≡ n)

-- both are vertices
abbrev pub HasBoth : GraphData → ℕ → ℕ → Type 0
HasBoth g source target = HasVertex g source × HasVertex g target

-- there is a walk: the route is written, or is longer than the room for it
abbrev pub IsFound : ℤ → Type 0
IsFound status = (status ≡ pos 0) ⊎ (status ≡ pos 2)

-- the question is answered: there is a walk, or there is none
abbrev pub IsAnswered : ℤ → Type 0
IsAnswered status = IsFound status ⊎ (status ≡ pos 1)

-- what the status of a route means, and what the places of the caller contain
pub record ReportsRoute {V : Type 0} (A : Algebra V) (g : GraphData) (source target : ℕ) (status : ℤ) (code hops : ℕ) (room : List ℕ) : Type 0 where
  pub best : IsFound status → IsBestCode A g (source ∷ []) target code
  pub near : IsFound status → AreHops A g (source ∷ []) target hops
  pub route : status ≡ pos 0 → IsRouteBetween A g source target (take (hops + 1) room)
  pub none : status ≡ pos 1 → IsUnreached A g (source ∷ []) target

-- which questions are refused, in this order: what it asks of are no vertices, there is no such
-- algebra
pub record ReportsRefusals (are_vertices : Type 0) (number limit : ℕ) (status : ℤ) : Type 0 where
  pub vertex : (status ≡ pos 17) ↔ (are_vertices → ⊥)
  pub algebra : (status ≡ pos 43) ↔ (are_vertices × (IsAlgebra number limit → ⊥))

-- the same, but before the algebra come lists that do not have the places that are due
pub record ReportsListRefusals (are_vertices have_places : Type 0) (number limit : ℕ) (status : ℤ) : Type 0 where
  pub vertex : (status ≡ pos 17) ↔ (are_vertices → ⊥)
  pub places : (status ≡ pos 2) ↔ (are_vertices × (have_places → ⊥))
  pub algebra : (status ≡ pos 43) ↔ (are_vertices × have_places × (IsAlgebra number limit → ⊥))

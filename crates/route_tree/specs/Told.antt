-- What labels, trees and routes say of walks.
use Rattle.std.specs.Prelude.{◌≡◌, ℕ, List, ◌∷◌, Contains, Option, Some, None}
use Rattle.road_graph.specs.GraphData.{GraphData}
use Rattle.path_algebra.specs.Algebra.{Algebra}
use Rattle.path_algebra.specs.Walks.{IsBest, IsUnreached, AreHops, IsParent, IsParentChain}

-- a label, hops and a parent of v are its best value, its least hops and its least parent, or none
-- of them if no walk to v has a value; a reached v has no parent exactly if it is a source
abbrev pub IsToldOf : {V : Type 0} → Algebra V → GraphData → List ℕ → ℕ → Option V → Option ℕ → Option ℕ → Type 0
IsToldOf A g sources v None None None = IsUnreached A g sources v
IsToldOf A g sources v (Some x) (Some k) None = IsBest A g sources v x × AreHops A g sources v k × Contains sources v
IsToldOf A g sources v (Some x) (Some k) (Some u) = IsBest A g sources v x × AreHops A g sources v k × IsParent A g sources v u
IsToldOf A g sources v _ _ _ = ⊥

-- the list from a source to v in which each vertex is the least parent of the next
pub record IsParentRoute {V : Type 0} (A : Algebra V) (g : GraphData) (sources : List ℕ) (v : ℕ) (list : List ℕ) : Type 0 where
  pub first : ℕ
  pub rest : List ℕ
  pub is : list ≡ first ∷ rest
  pub begins : Contains sources first
  pub chain : IsParentChain A g sources first rest v

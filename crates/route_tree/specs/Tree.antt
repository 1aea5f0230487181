-- What a route tree is, and what a route in it.
use Rattle.std.specs.Prelude.{◌≡◌, ℕ, ◌+◌, ◌≤◌, List, [], ◌∷◌, length, Contains, Option, Some, None}
use Rattle.road_graph.specs.GraphData.{GraphData, HasVertex}
use Rattle.path_algebra.specs.Algebra.{Algebra}
use Rattle.path_algebra.specs.Walks.{label_of, AreHops, IsParent, IsUnreached}

-- the hops and the parent of each vertex, or none
pub record Branches : Type 0 where
  pub hops : List (Option ℕ)
  pub parents : List (Option ℕ)

-- the hops of a vertex
abbrev pub hops_of : Branches → ℕ → Option ℕ
hops_of t v = label_of t.hops v

-- the parent of a vertex
abbrev pub parent_of : Branches → ℕ → Option ℕ
parent_of t v = label_of t.parents v

-- hops are least, and none exactly if no walk has a value
abbrev pub AreHopsAt : {V : Type 0} → Algebra V → GraphData → List ℕ → ℕ → Option ℕ → Type 0
AreHopsAt A g sources v None = IsUnreached A g sources v
AreHopsAt A g sources v (Some k) = AreHops A g sources v k

-- a vertex without a parent is a source or unreached
abbrev pub IsParentAt : {V : Type 0} → Algebra V → GraphData → List ℕ → ℕ → Option ℕ → Option ℕ → Type 0
IsParentAt A g sources v None (Some u) = ⊥
IsParentAt A g sources v None None = IsUnreached A g sources v
IsParentAt A g sources v (Some k) None = Contains sources v
IsParentAt A g sources v (Some k) (Some u) = IsParent A g sources v u

-- hops and parents are right at every vertex
pub record IsTree {V : Type 0} (A : Algebra V) (g : GraphData) (sources : List ℕ) (t : Branches) : Type 0 where
  pub hops_count : length t.hops ≡ g.vertices
  pub parents_count : length t.parents ≡ g.vertices
  pub hops : (v : ℕ) → HasVertex g v → AreHopsAt A g sources v (hops_of t v)
  pub parents : (v : ℕ) → HasVertex g v → IsParentAt A g sources v (hops_of t v) (parent_of t v)

-- a parent has one hop less; a vertex without a parent has no hops or 0 hops
abbrev pub IsLinkedAt : Branches → Option ℕ → Option ℕ → Type 0
IsLinkedAt t None None = Unit {0}
IsLinkedAt t None (Some u) = ⊥
IsLinkedAt t (Some k) None = k ≡ 0
IsLinkedAt t (Some k) (Some u) = (1 ≤ u) × (u ≤ length t.hops) × ((j : ℕ) × (hops_of t u ≡ Some j) × (j + 1 ≡ k))

-- each vertex is linked to its parent
pub record IsLinked (t : Branches) : Type 0 where
  pub count : length t.parents ≡ length t.hops
  pub links : (v : ℕ) → 1 ≤ v → v ≤ length t.hops → IsLinkedAt t (hops_of t v) (parent_of t v)

-- each vertex of a list is the parent of the next, from u on to v
abbrev pub IsChain : Branches → ℕ → List ℕ → ℕ → Type 0
IsChain t u [] v = u ≡ v
IsChain t u (w ∷ rest) v = (parent_of t w ≡ Some u) × IsChain t w rest v

-- a list of vertices from one without a parent and with hops on to v
pub record IsRoute (t : Branches) (v : ℕ) (list : List ℕ) : Type 0 where
  pub first : ℕ
  pub rest : List ℕ
  pub is : list ≡ first ∷ rest
  pub begins : hops_of t first ≡ Some 0
  pub chain : IsChain t first rest v

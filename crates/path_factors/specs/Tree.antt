-- The tree of an elimination: the parent of a place is its least head.
use Rattle.std.specs.Prelude.{◌≡◌, ℕ, zero, suc, ◌<◌, ◌≤◌, ◌⊎◌, List, length, slice_index}
use Rattle.road_graph.specs.GraphData.{GraphData, IsGraph}
use Rattle.path_algebra.specs.Algebra.{Algebra}
use Rattle.path_algebra.specs.Composition.{Composition}
use Rattle.path_factors.specs.Factors.{FactorData, IsFactor, Rises, Falls}
use Rattle.path_factors.specs.Heads.{IsHead, IsOutline}

-- p is the parent of place v: its least head, or n if it has none
pub record IsTreeParent (heads : List (List ℕ)) (n v p : ℕ) : Type 0 where
  pub least : (y : ℕ) → IsHead heads v y → p ≤ y
  pub one : (p ≡ n) ⊎ IsHead heads v p

-- the parents of the first k of n places
pub record AreParentsTo (heads : List (List ℕ)) (n k : ℕ) (parents : List ℕ) : Type 0 where
  pub count : length parents ≡ k
  pub parent : (v : ℕ) → v < k → IsTreeParent heads n v (slice_index parents v)

-- k parents up from place v is y
abbrev pub IsUp : List (List ℕ) → ℕ → ℕ → ℕ → ℕ → Type 0
IsUp heads n zero v y = v ≡ y
IsUp heads n (suc k) v y = (v < n) × ((p : ℕ) × IsTreeParent heads n v p × IsUp heads n k p y)

-- place y is an ancestor of place v, or v itself
abbrev pub IsAncestor : List (List ℕ) → ℕ → ℕ → ℕ → Type 0
IsAncestor heads n v y = (k : ℕ) × IsUp heads n k v y

-- each link stands at the lesser of its ends, and the other is a head of it
pub record AreAtHeads {W : Type 0} (heads : List (List ℕ)) (F : FactorData W) : Type 0 where
  pub rising : (x y : ℕ) (a : W) → Rises F x y a → IsHead heads x y
  pub falling : (x y : ℕ) (a : W) → Falls F x y a → IsHead heads y x

-- what holds of a graph that is factored
pub record IsFactored {V W : Type 0} (A : Algebra V) (C : Composition V W) (g : GraphData) (F : FactorData W) (heads : List (List ℕ)) : Type 0 where
  pub roads : IsGraph g
  pub factor : IsFactor A C g F
  pub outline : IsOutline g F.places heads
  pub at_heads : AreAtHeads heads F

-- Algebras whose best values are least sums of what arcs cost, so that counted numbers carry them.
use Rattle.std.specs.Prelude.{◌≡◌, ℕ, ◌/◌, ◌%◌, ◌^◌, ◌↔◌, List, All, Contains, Option, Some, None, IsSome}
use Rattle.road_graph.specs.GraphData.{GraphData, IsGraph, HasVertex}
use Rattle.path_algebra.specs.Algebra.{Algebra}
use Rattle.path_algebra.specs.Counted.{counted, AreBestInto, CountsFit, IsCountedParent, IsCountedStep}
use Rattle.path_algebra.specs.Walks.{AreHops, IsBest, IsBestLabel, IsNearer, IsParent}

-- the value that a number carries, if there is a number: the one whose code is above the low k
-- bits; none if that is the code of no value
abbrev pub carried_value : {V : Type 0} → Algebra V → ℕ → Option ℕ → Option V
carried_value A k None = None
carried_value A k (Some x) = A.value_of (x / 2 ^ k)

-- the best numbers from these sources carry the best values of A, with hops and parents
pub record CarryValues {V : Type 0} (A : Algebra V) (g : GraphData) (cost : ℕ → ℕ) (k : ℕ) (sources : List ℕ) : Type 0 where
  -- the best label of a vertex is what its best number carries
  pub labels : (v : ℕ) (number : Option ℕ) → IsBestLabel (counted cost k) g sources v number →
      IsBestLabel A g sources v (carried_value A k number)
  -- the sources are the vertices of number 0
  pub sources_are_zero : (v x : ℕ) → IsBest (counted cost k) g sources v x → Contains sources v ↔ (x ≡ 0)
  -- of a vertex with a value: the low k bits are its hops,
  pub hops : (v x : ℕ) → IsBest (counted cost k) g sources v x → IsSome (carried_value A k (Some x)) →
      AreHops A g sources v (x % 2 ^ k)
  -- the nearer vertices are those from which an arc adds up to its number,
  pub steps : (u v x y : ℕ) → IsBest (counted cost k) g sources u x → IsBest (counted cost k) g sources v y →
      IsSome (carried_value A k (Some y)) → IsCountedStep g cost k u x v y ↔ IsNearer A g sources v u
  -- and the least of them is its parent
  pub parents : (number : ℕ → Option ℕ) (v y u : ℕ) → IsBest (counted cost k) g sources v y →
      IsSome (carried_value A k (Some y)) → AreBestInto (counted cost k) g sources number v →
      IsCountedParent g cost k number v y u ↔ IsParent A g sources v u

-- the best values of A are least sums of these costs: on every graph, from all sources and for
-- every k with which the numbers fit, they are carried by the best numbers
abbrev pub IsCarried : {V : Type 0} → Algebra V → (ℕ → ℕ) → Type 0
IsCarried A cost = (g : GraphData) (sources : List ℕ) (k : ℕ) → IsGraph g → All (HasVertex g) sources →
    CountsFit g cost k → CarryValues A g cost k sources

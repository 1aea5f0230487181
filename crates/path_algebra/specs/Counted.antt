-- Sums that carry the number of arcs in their low k bits: least number means least sum and, among
-- those, fewest arcs.
use Rattle.std.specs.Prelude.{◌≡◌, ℕ, zero, suc, ◌+◌, ◌-◌, ◌*◌, ◌/◌, ◌%◌, ◌<◌, ◌≤◌, ◌^◌, ◌↔◌, List, [], ◌∷◌, Contains, Option, Some}
use Rattle.road_graph.specs.GraphData.{GraphData, HasArc, arc_of}
use Rattle.path_algebra.specs.Algebra.{Algebra}
use Rattle.path_algebra.specs.Names.{Own}
pub use Rattle.path_algebra.specs.declared.counted_sums.Cost.{Cost}
pub use Rattle.path_algebra.specs.declared.counted_sums.Cost.TheVariants.{Weight, One}
use Rattle.path_algebra.specs.Given.{within}
use Rattle.path_algebra.specs.Laws.{limited_sums}
use Rattle.path_algebra.specs.Walks.{IsWalkFrom, IsBest, IsBestLabel, IsUnreached, AreHops, IsNearer, IsParent}

-- what an arc of weight w costs
abbrev pub cost_of : Cost → ℕ → ℕ
cost_of Weight w = w
cost_of One w = 1

-- what an arc adds to the number: its cost above the low k bits, and one in them
abbrev pub counted_cost : (ℕ → ℕ) → ℕ → ℕ → ℕ
counted_cost cost k w = cost w * 2 ^ k + 1

-- the sum of what the arcs cost, times 2^k, and the number of arcs; refused from 2^63 on, and less
-- is better
abbrev pub counted : (ℕ → ℕ) → ℕ → Algebra ℕ
counted cost k = limited_sums Own (counted_cost cost k) (2 ^ 63 - 1)

-- the sum of f over the numbers 1 to n
abbrev pub sum_to : (ℕ → ℕ) → ℕ → ℕ
sum_to f zero = 0
sum_to f (suc n) = f (suc n) + sum_to f n

-- 2^k is above the number of vertices, and the sum of the heaviest arcs that enter each, and one
-- more, times 2^k is at most 2^63: a walk that enters no vertex twice has fewer than 2^k arcs and a
-- number below 2^63
pub record CountsFit (g : GraphData) (cost : ℕ → ℕ) (k : ℕ) : Type 0 where
  pub heaviest : ℕ → ℕ  -- no arc that enters a vertex costs more than this
  pub costs : (a : ℕ) → HasArc g a → cost (arc_of g a).weight ≤ heaviest (arc_of g a).head
  pub few : g.vertices < 2 ^ k
  pub fits : (sum_to heaviest g.vertices + 1) * 2 ^ k ≤ 2 ^ 63

-- the plain sum of what a list of arcs costs
abbrev pub sum_of_costs : GraphData → (ℕ → ℕ) → List ℕ → ℕ
sum_of_costs g cost [] = 0
sum_of_costs g cost (a ∷ p) = cost (arc_of g a).weight + sum_of_costs g cost p

-- x is the least plain sum of costs over the walks to v
pub record IsLeastCost (g : GraphData) (cost : ℕ → ℕ) (sources : List ℕ) (v : ℕ) (x : ℕ) : Type 0 where
  pub attained : (p : List ℕ) × IsWalkFrom g sources p v × (sum_of_costs g cost p ≡ x)
  pub least : (p : List ℕ) → IsWalkFrom g sources p v → x ≤ sum_of_costs g cost p

-- an arc leads from u to v, and the number at u and what the arc adds are the number at v
abbrev pub IsCountedStep : GraphData → (ℕ → ℕ) → ℕ → ℕ → ℕ → ℕ → ℕ → Type 0
IsCountedStep g cost k u x v y =
    (a : ℕ) × HasArc g a × ((arc_of g a).tail ≡ u) × ((arc_of g a).head ≡ v) × (x + counted_cost cost k (arc_of g a).weight ≡ y)

-- such an arc by what is known of the tails, where v has the number y
abbrev pub IsCountedStepOf : GraphData → (ℕ → ℕ) → ℕ → (ℕ → Option ℕ) → ℕ → ℕ → ℕ → Type 0
IsCountedStepOf g cost k number v y u = (x : ℕ) × (number u ≡ Some x) × IsCountedStep g cost k u x v y

-- u is the least vertex with such an arc to v
pub record IsCountedParent (g : GraphData) (cost : ℕ → ℕ) (k : ℕ) (number : ℕ → Option ℕ) (v y u : ℕ) : Type 0 where
  pub step : IsCountedStepOf g cost k number v y u
  pub least : (t : ℕ) → IsCountedStepOf g cost k number v y t → u ≤ t

-- the labels of the tails of all arcs into v are best
abbrev pub AreBestInto : Algebra ℕ → GraphData → List ℕ → (ℕ → Option ℕ) → ℕ → Type 0
AreBestInto A g sources label v =
    (a : ℕ) → HasArc g a → (arc_of g a).head ≡ v → IsBestLabel A g sources (arc_of g a).tail (label (arc_of g a).tail)

-- the best numbers are the best values of A with hops and parents: the value above the low k bits,
-- the hops in them, and the parent by the arcs that add up
pub record CarryHops (A : Algebra ℕ) (g : GraphData) (cost : ℕ → ℕ) (k : ℕ) (sources : List ℕ) : Type 0 where
  pub best : (v x : ℕ) → IsBest (counted cost k) g sources v x ↔
      (IsBest A g sources v (x / 2 ^ k) × AreHops A g sources v (x % 2 ^ k))
  pub unreached : (v : ℕ) → IsUnreached (counted cost k) g sources v ↔ IsUnreached A g sources v
  pub sources_are_zero : (v x : ℕ) → IsBest (counted cost k) g sources v x → Contains sources v ↔ (x ≡ 0)
  pub steps : (u v x y : ℕ) → IsBest (counted cost k) g sources u x → IsBest (counted cost k) g sources v y →
      IsCountedStep g cost k u x v y ↔ IsNearer A g sources v u
  pub parents : (number : ℕ → Option ℕ) (v y u : ℕ) → IsBest (counted cost k) g sources v y →
      AreBestInto (counted cost k) g sources number v →
      IsCountedParent g cost k number v y u ↔ IsParent A g sources v u

-- the same numbers at every limit: a vertex whose sum is above the limit is unreached, and the
-- others are as without one
pub record CarryHopsWithin (limit : ℕ) (g : GraphData) (k : ℕ) (sources : List ℕ) : Type 0 where
  pub best : (v x : ℕ) → x / 2 ^ k ≤ limit → IsBest (counted (λ w. w) k) g sources v x ↔
      (IsBest (within limit) g sources v (x / 2 ^ k) × AreHops (within limit) g sources v (x % 2 ^ k))
  pub beyond : (v x : ℕ) → IsBest (counted (λ w. w) k) g sources v x → limit < x / 2 ^ k →
      IsUnreached (within limit) g sources v
  pub unreached : (v : ℕ) → IsUnreached (counted (λ w. w) k) g sources v → IsUnreached (within limit) g sources v
  pub steps : (u v x y : ℕ) → IsBest (counted (λ w. w) k) g sources u x → IsBest (counted (λ w. w) k) g sources v y →
      y / 2 ^ k ≤ limit → IsCountedStep g (λ w. w) k u x v y ↔ IsNearer (within limit) g sources v u
  pub parents : (number : ℕ → Option ℕ) (v y u : ℕ) → IsBest (counted (λ w. w) k) g sources v y → y / 2 ^ k ≤ limit →
      AreBestInto (counted (λ w. w) k) g sources number v →
      IsCountedParent g (λ w. w) k number v y u ↔ IsParent (within limit) g sources v u

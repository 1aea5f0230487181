-- Factors of a graph, and why it has none.
use Rattle.std.specs.Prelude.{◌≡◌, ◌≢◌, ◌↔◌, ℕ, List, ℤ, pos, length, Option, Some, None}
use Rattle.road_graph.specs.GraphData.{GraphData}
use Rattle.path_algebra.specs.Algebra.{Algebra}
use Rattle.path_algebra.specs.Carried.{IsCarried}
use Rattle.path_algebra.specs.Choices.{IsNumbered, arc_cost_of}
use Rattle.path_algebra.specs.Counted.{cost_of, CountsFit}
use Rattle.path_algebra.specs.declared.choice.AlgebraChoice.{AlgebraChoice}
use Rattle.path_algebra.specs.declared.counted_sums.Cost.{Cost}
use Rattle.path_algebra.specs.declared.counted_sums.CountedSums.{CountedSums}
use Rattle.elimination_order.specs.Bounds.{IsTooDense}
use Rattle.elimination_order.specs.Orders.{HasEachPlace}
use Rattle.elimination_order.specs.declared.counts.Counts.{Counts}
use Rattle.path_factors.specs.State.{FactorState}
use Rattle.answer_lists.specs.Sharing.{Shared, factored_for}

-- the factors are of this graph, for arcs that cost this
abbrev pub IsFactorOf : GraphData → Cost → FactorState CountedSums ℕ → Type 0
IsFactorOf g cost f = (f.roads ≡ g) × (f.algebra.cost ≡ cost)

-- the values of A are sums of costs, and no number of low bits for the hops leaves room for the
-- sums of this graph
pub record IsTooHeavy {V : Type 0} (A : Algebra V) (g : GraphData) : Type 0 where
  pub cost : Cost
  pub carried : IsCarried A (cost_of cost)
  pub heavy : (k : ℕ) → CountsFit g (cost_of cost) k → ⊥

-- the values of A are sums of costs, and some number of low bits for the hops leaves room for the
-- sums of this graph, but by these counts of an elimination it is too dense for factors
pub record IsDense {V : Type 0} (A : Algebra V) (g : GraphData) : Type 0 where
  pub cost : Cost
  pub carried : IsCarried A (cost_of cost)
  pub bits : ℕ
  pub fits : CountsFit g (cost_of cost) bits
  pub counts : Counts
  pub above : IsTooDense g.vertices (length g.arcs) counts

-- this is so of what an arc costs by the algebra that the number names, if it names one
abbrev pub OfCost : ℕ → (Option Cost → Type 0) → Type 0
OfCost number P = (chosen : AlgebraChoice) → IsNumbered number 0 chosen → P (arc_cost_of chosen)

-- the graph is factored for arcs that cost this, and else as before
abbrev pub IsFactoredBy : Shared → Shared → Option Cost → Type 0
IsFactoredBy old new None = ⊥
IsFactoredBy old new (Some cost) = new ≡ factored_for old cost

-- what the status says of factoring by an algebra, of which this is what an arc costs
pub record ReportsFactoring (old new : Shared) (status : ℤ) (cost : Option Cost) : Type 0 where
  pub done : status ≡ pos 0 → IsFactoredBy old new cost
  pub none : (status ≡ pos 9) ↔ (cost ≡ None)

-- what the status says of the places of n vertices by which a graph is to be factored
pub record ReportsPlaces (n : ℕ) (places : List ℕ) (status : ℤ) : Type 0 where
  pub done : status ≡ pos 0 → (length places ≡ n) × HasEachPlace places
  pub short : status ≡ pos 2 → length places ≢ n
  pub refused : status ≡ pos 48 → HasEachPlace places → ⊥

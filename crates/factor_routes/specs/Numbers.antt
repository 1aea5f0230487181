-- The numbers that a factored graph is asked for.
use Rattle.std.specs.Prelude.{ℕ, List, Option}
use Rattle.road_graph.specs.GraphData.{GraphData, HasVertex}
use Rattle.path_algebra.specs.Algebra.{Algebra}
use Rattle.path_algebra.specs.Counted.{cost_of, counted}
use Rattle.path_algebra.specs.Walks.{IsBestLabel}
use Rattle.path_algebra.specs.declared.counted_sums.CountedSums.{CountedSums}
use Rattle.path_factors.specs.State.{FactorState}

-- the algebra of its numbers
abbrev pub numbers_of : {W : Type 0} → FactorState CountedSums W → Algebra ℕ
numbers_of f = counted (cost_of f.algebra.cost) f.algebra.bits

-- the number of each vertex is best
abbrev pub AreBestNumbers : Algebra ℕ → GraphData → List ℕ → (ℕ → Option ℕ) → Type 0
AreBestNumbers A g sources number = (v : ℕ) → HasVertex g v → IsBestLabel A g sources v (number v)

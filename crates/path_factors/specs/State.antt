-- A running factor as plain data.
use Rattle.std.specs.Prelude.{◌≡◌, ℕ, List}
use Rattle.road_graph.specs.GraphData.{GraphData}
use Rattle.path_factors.specs.Factors.{FactorData}
use Rattle.path_factors.specs.Heads.{heads_in}

-- the algebra, the graph, its factor, and the heads of each place
pub record FactorState (T W : Type 0) : Type 0 where
  pub algebra : T
  pub roads : GraphData
  pub factor : FactorData W
  pub heads : List (List ℕ)

-- of the same algebra and graph, with the same heads
pub record IsSameState {T W : Type 0} (before after : FactorState T W) : Type 0 where
  pub algebra : after.algebra ≡ before.algebra
  pub roads : after.roads ≡ before.roads
  pub heads : heads_in after.factor.leaving ≡ heads_in before.factor.leaving

-- What handles share: a graph, and for which costs of its arcs it is factored.
use Rattle.std.specs.Prelude.{Bool, true, false, if◌then◌else◌}
use Rattle.road_graph.specs.GraphData.{GraphData}
use Rattle.path_algebra.specs.declared.counted_sums.Cost.{Cost}
use Rattle.path_algebra.specs.declared.counted_sums.Cost.TheVariants.{Weight, One}

-- a graph, and whether it is factored for arcs that cost their weights, and for arcs that cost 1
pub record Shared : Type 0 where
  pub roads : GraphData
  pub by_weights : Bool
  pub by_arcs : Bool

-- a graph without factors
abbrev pub unfactored : GraphData → Shared
unfactored g = record { roads = g; by_weights = false; by_arcs = false }

-- another graph, factored for the same costs
abbrev pub reweighed : Shared → GraphData → Shared
reweighed s g = record { roads = g; by_weights = s.by_weights; by_arcs = s.by_arcs }

-- whether it is factored for arcs that cost this
abbrev pub is_factored : Shared → Cost → Bool
is_factored s Weight = s.by_weights
is_factored s One = s.by_arcs

-- the same, factored for arcs that cost this too
abbrev pub factored_for : Shared → Cost → Shared
factored_for s Weight = record { roads = s.roads; by_weights = true; by_arcs = s.by_arcs }
factored_for s One = record { roads = s.roads; by_weights = s.by_weights; by_arcs = true }

-- the same, factored for arcs that cost this too if the first is
abbrev pub factored_as : Shared → Shared → Cost → Shared
factored_as first s cost = if is_factored first cost then factored_for s cost else s

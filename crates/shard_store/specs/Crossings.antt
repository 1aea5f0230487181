-- How many arcs of a graph there are between the shards of its plan.
use Rattle.std.specs.Prelude.{◌≡◌, ℕ, suc, ◌+◌, ◌*◌, ◌<◌, ◌||◌, ◌&&◌, eqb, List, length, get_or}
use Rattle.road_graph.specs.GraphData.{GraphData, arc_of}
use Rattle.scholten_core.specs.Sums.{sum_below, one_if}
use Rattle.shard_store.specs.Plans.{PlanData, shard_in}

-- a plan of a graph
pub record CountedData : Type 0 where
  pub roads : GraphData
  pub plan : PlanData

-- 1 if an arc from the shard x to the shard y is one between s and t
abbrev pub joined : (s t x y : ℕ) → ℕ
joined s t x y = one_if ((eqb y t && eqb x s) || (eqb x t && eqb y s))

-- how many arcs there are between two shards; for a shard and itself, how many are within it
abbrev pub crossings : GraphData → PlanData → (s t : ℕ) → ℕ
crossings g p s t = sum_below (λ b. joined s t (shard_in p (arc_of g (suc b)).tail) (shard_in p (arc_of g (suc b)).head)) (length g.arcs)

-- what a table of rows of 64 numbers has at two shards
abbrev pub at_shards : List ℕ → (s t : ℕ) → ℕ
at_shards counts s t = get_or counts (64 * s + t) 0

-- the plan is one of the graph, and the table has the number of arcs between each two shards
pub record CountsCrossings (g : GraphData) (p : PlanData) (counts : List ℕ) : Type 0 where
  pub covers : length p.list ≡ g.vertices
  pub long : length counts ≡ 64 * p.shards
  pub each : (s t : ℕ) → s < p.shards → t < p.shards → at_shards counts s t ≡ crossings g p s t

-- How a batch cuts a graph into shards, in which order the parts of its diffusions take their items,
-- and how far a shard may run ahead.
use Rattle.std.specs.Prelude.{ℕ, ◌/◌, cond, Option, None, Some, length, sum_by, unwrap_or}
use Rattle.road_graph.specs.GraphData.{GraphData}
use Rattle.shard_store.specs.Plans.{PlanData, IsBlocks}
use Rattle.shard_store.specs.declared.queue_order.QueueOrder.{QueueOrder}
use Rattle.shard_store.specs.declared.queue_order.QueueOrder.TheVariants.{Arrival, BestFirst}
use Rattle.batch_settings.specs.declared.settings.Settings.{Settings}
use Rattle.batch_run.specs.declared.solve.pace.Pace.{Pace}

-- the plan has as many blocks of the vertices of the graph as the settings say
abbrev pub IsCut : Settings → GraphData → PlanData → Type 0
IsCut how roads plan = IsBlocks roads.vertices how.shards plan

-- the order that they choose
abbrev pub order_of : Settings → QueueOrder
order_of how = cond how.best_first BestFirst Arrival

-- the mean weight of the arcs of a graph; 0 if it has none
abbrev pub mean_weight : GraphData → ℕ
mean_weight g = sum_by (λ a. a.weight) g.arcs / length g.arcs

-- by what weight a shard may run ahead: best first the one that was chosen, or else a fifth of the
-- mean weight; in order of arrival none is held back
abbrev pub ahead_of : Settings → GraphData → Option ℕ
ahead_of how g = cond how.best_first (Some (unwrap_or how.ahead (mean_weight g / 5))) None

-- the pace that they ask for
abbrev pub pace_of : Settings → GraphData → Pace
pace_of how g = record { order = order_of how; ahead = ahead_of how g }

-- What is counted of a shard before its tables are made.
use Rattle.std.specs.Prelude.{◌≡◌, ℕ, ◌+◌, ◌-◌, ◌<◌, Bool, eqb, List, length, get_or, take}
use Rattle.road_graph.specs.GraphData.{GraphData}
use Rattle.scholten_core.specs.Network.{Network}
use Rattle.shard_store.specs.declared.layout.Extent.{Extent}
use Rattle.shard_store.specs.declared.queue_order.QueueOrder.TheVariants.{Arrival}
use Rattle.shard_store.specs.Plans.{PlanData}
use Rattle.shard_store.specs.Setup.{SetupData, place_in, network_of, setup_of}
use Rattle.shard_store.specs.Outgoing.{arcs_out}
use Rattle.shard_store.specs.Capacities.{outbox_bound}

-- the source's part is the environment's too
abbrev pub is_first : {S : Type 0} → SetupData S → ℕ → Bool
is_first t s = eqb (place_in t 0) s

-- a shard of a diffusion, whatever its algebra
pub record ShardLayoutData : Type 0 where
  pub setup : SetupData (Unit {0})
  pub shard : ℕ

-- it, by its roads, source, plan and number; the order of its items does not matter to it
abbrev pub layout_view : GraphData → ℕ → PlanData → ℕ → ShardLayoutData
layout_view roads source plan shard = record { setup = setup_of tt roads source plan Arrival; shard = shard }

-- the first and the last vertex of an ascending list, 1 and 0 if it is empty, and how many it has
pub record IsExtent (vs : List ℕ) (e : Extent) : Type 0 where
  pub first : e.first ≡ get_or vs 0 1
  pub last : e.last ≡ get_or vs (length vs - 1) 0
  pub count : e.count ≡ length vs

-- where the arcs out of each vertex begin in the list of all of them, and how many these are
pub record AreOffsets (N : Network) (own offsets : List ℕ) (count : ℕ) : Type 0 where
  pub long : length offsets ≡ length own
  pub starts : (j : ℕ) → j < length own → get_or offsets j 0 ≡ length (arcs_out N (take j own))
  pub count_is : count ≡ length (arcs_out N own)

-- for each shard the number of arcs between it and the own one; for the own one, the number of
-- those within it
abbrev pub CountsAll : ShardLayoutData → List ℕ → Type 0
CountsAll w capacities = (length capacities ≡ w.setup.plan.shards) × ((t : ℕ) → t < w.setup.plan.shards → get_or capacities t 0 ≡ outbox_bound (network_of w.setup) (place_in w.setup) w.shard t)

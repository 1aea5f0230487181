-- What all parts of a diffusion share: the diffusion, the plan that says which shard each vertex is
-- in, and the order in which parts take their items.
use Rattle.std.specs.Prelude.{◌≡◌, ℕ, ◌-◌, ◌<◌, ◌∷◌, length, get_or}
use Rattle.road_graph.specs.GraphData.{GraphData, HasVertex, IsGraph}
use Rattle.scholten_core.specs.Network.{Network}
use Rattle.scholten_core.specs.DiffusionData.{DiffusionData, network_in as network_asked}
use Rattle.shard_store.specs.declared.queue_order.QueueOrder.{QueueOrder}
use Rattle.shard_store.specs.Plans.{PlanData, IsPlan}

-- the same in all parts of a diffusion
pub record SetupData (S : Type 0) : Type 0 where
  pub diffusion : DiffusionData S
  pub plan : PlanData
  pub order : QueueOrder

-- it, by its algebra, roads, source, plan and order
abbrev pub setup_of : {S : Type 0} → S → GraphData → ℕ → PlanData → QueueOrder → SetupData S
setup_of algebra roads source plan order = record { diffusion = record { algebra = algebra; roads = roads; source = source }; plan = plan; order = order }

-- the network of its diffusion
abbrev pub network_of : {S : Type 0} → SetupData S → Network
network_of t = network_asked t.diffusion

-- the shard of a vertex, and of the environment: that of the source
unfoldable pub place_in : {S : Type 0} → SetupData S → ℕ → ℕ
place_in t v = get_or (get_or t.plan.list (t.diffusion.source - 1) 0 ∷ t.plan.list) v 0

-- the plan is for the graph and has the shard, and the source is a vertex of the graph
pub record IsPlanned {S : Type 0} (t : SetupData S) (s : ℕ) : Type 0 where
  pub roads : IsGraph t.diffusion.roads
  pub source : HasVertex t.diffusion.roads t.diffusion.source
  pub plan : IsPlan t.plan
  pub covers : length t.plan.list ≡ t.diffusion.roads.vertices
  pub shard : s < t.plan.shards

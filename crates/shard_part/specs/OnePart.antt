-- A diffusion with one part, which takes its items best first.
use Rattle.std.specs.Prelude.{◌≡◌, List, [], get_or}
use Rattle.path_algebra.specs.Algebra.{Algebra}
use Rattle.scholten_core.specs.declared.event.Event.{Event}
use Rattle.scholten_core.specs.Diffusion.{opening}
use Rattle.scholten_core.specs.BestFirst.{IsBestFirst}
use Rattle.shard_store.specs.declared.queue_order.QueueOrder.TheVariants.{BestFirst}
use Rattle.shard_store.specs.Setup.{SetupData, network_of}
use Rattle.shard_part.specs.PartState.{PartData}

-- the plan has one shard, whose part takes its items best first
abbrev pub HasOneBestFirstPart : {S : Type 0} → SetupData S → Type 0
HasOneBestFirstPart t = (t.plan.shards ≡ 1) × (t.order ≡ BestFirst)

-- if so, the events take the best waiting message first, from the opening on
abbrev pub AreBestFirstIfOne : {S V : Type 0} → (S → Algebra V) → SetupData S → List Event → Type 0
AreBestFirstIfOne meaning t events = HasOneBestFirstPart t →
    IsBestFirst (meaning t.diffusion.algebra) (network_of t) (opening (meaning t.diffusion.algebra) (network_of t)) events

-- nothing is in the outbox of the part to its own shard
abbrev pub OwnOutboxIsEmpty : {S V : Type 0} → PartData S V → Type 0
OwnOutboxIsEmpty p = get_or p.outs p.shard [] ≡ []

-- Batches on their way between two shards.
use Rattle.std.specs.Prelude.{◌≡◌, ℕ, ◌+◌, ◌≤◌, List, ◌++◌, length}
use Rattle.scholten_core.specs.declared.item.Item.{Item}
use Rattle.path_algebra.specs.Algebra.{Algebra}
use Rattle.shard_part.specs.PartState.{PartData, maker_of}
use Rattle.shard_store.specs.Setup.{SetupData, network_of, place_in}
use Rattle.shard_part.specs.Weights.{All}
use Rattle.shard_store.specs.Capacities.{queue_bound}
use Rattle.shard_part.specs.Exchange.{Fits}

module _ {S V : Type 0} where
  -- each item was made in the shard j
  abbrev pub MadeAt : SetupData S → ℕ → List (Item V) → Type 0
  MadeAt t j xs = All (λ i. place_in t (maker_of (network_of t) i) ≡ j) xs

  -- the part with a batch at the back of its queue
  abbrev pub joined : PartData S V → List (Item V) → PartData S V
  joined p xs = record p { queue = p.queue ++ xs }

  -- the part may receive the batch: it has room, and the batch fits
  abbrev pub MayReceive : (S → Algebra V) → PartData S V → List (Item V) → Type 0
  MayReceive meaning p xs = (length p.queue + length xs ≤ queue_bound (network_of p.setup) (place_in p.setup) p.shard) × Fits (meaning p.setup.diffusion.algebra) p xs

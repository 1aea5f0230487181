-- Which batches a part may receive.
use Rattle.std.specs.Prelude.{◌≡◌, ◌≢◌, ℕ, ◌+◌, ◌≤◌, true, false, IsTrue, Some, List, get_or}
use Rattle.scholten_core.specs.declared.item.Item.{Item}
use Rattle.scholten_core.specs.declared.item.Item.TheVariants.{Message as MessageOn, Signal as SignalOn}
use Rattle.path_algebra.specs.Algebra.{Algebra}
use Rattle.road_graph.specs.GraphData.{HasArc}
use Rattle.scholten_core.specs.Items.{item_arc}
use Rattle.shard_part.specs.PartState.{PartData, state_in}
use Rattle.shard_store.specs.Setup.{network_of, place_in}
use Rattle.shard_store.specs.Totals.{counted, is}
use Rattle.shard_part.specs.Weights.{part_weight, All}

-- the arc comes from another shard into this one and is no engager here
abbrev pub MayEngage : {S V : Type 0} → PartData S V → ℕ → Type 0
MayEngage p a = (place_in p.setup ((network_of p.setup).head a) ≡ p.shard) × (place_in p.setup ((network_of p.setup).tail a) ≢ p.shard) × ((state_in p).engager ((network_of p.setup).head a) ≢ Some a)

-- the arc leaves this shard for another and is busy
abbrev pub Awaits : {S V : Type 0} → PartData S V → ℕ → Type 0
Awaits p a = (place_in p.setup ((network_of p.setup).tail a) ≡ p.shard) × (place_in p.setup ((network_of p.setup).head a) ≢ p.shard) × (get_or p.busy a false ≡ true)

module _ {S V : Type 0} (A : Algebra V) (p : PartData S V) where
  -- a message brings a value along an arc of the graph that may engage here, a signal comes back on
  -- one that awaits it
  abbrev pub FitsAlone : Item V → Type 0
  FitsAlone (MessageOn a x) = IsTrue (A.is_value x) × HasArc p.setup.diffusion.roads a × MayEngage p a
  FitsAlone (SignalOn a) = HasArc p.setup.diffusion.roads a × Awaits p a

  -- the item is alone on its arc among those after it and those of the part, and may be received by
  -- itself
  abbrev pub FitsBefore : Item V → List (Item V) → Type 0
  FitsBefore i rest = (counted (item_arc i) rest ≡ 0) × (part_weight (λ _ j. is (item_arc i) (item_arc j)) p ≡ 0) × FitsAlone i

  -- which batches a part may receive
  pub record Fits (batch : List (Item V)) : Type 0 where
    -- no arc occurs twice in the batch, or both in it and in the queue or an outbox
    pub apart : (b : ℕ) → counted b batch + part_weight (λ _ j. is b (item_arc j)) p ≤ 1
    -- and each item fits
    pub each : All FitsAlone batch

-- What is left of a part whose diffusion is over.
use Rattle.std.specs.Prelude.{◌≡◌, ℕ, Option, List}
use Rattle.shard_store.specs.declared.tally.Tally.{Tally}
use Rattle.shard_part.specs.PartState.{PartData}
use Rattle.shard_part.specs.Readings.{tally_in}
use Rattle.shard_store.specs.Queue.{Room}
use Rattle.shard_store.specs.Rows.{Rows}
use Rattle.shard_part.specs.Moves.{RepInvariant}

-- the part was stored in some rows, whose vertices and labels are these, and the shard and the
-- counts are its own
pub record IsClosedPart {S V : Type 0} (p : PartData S V) (shard : ℕ) (own : List ℕ) (labels : List (Option V)) (tally : Tally) : Type 0 where
  pub rows : Rows V
  pub queue_room : Room
  pub out_capacities : List ℕ
  pub stored : RepInvariant p rows queue_room out_capacities
  pub shard_is : shard ≡ p.shard
  pub own_are : own ≡ rows.own
  pub labels_are : labels ≡ rows.labels
  pub tally_is : tally ≡ tally_in p

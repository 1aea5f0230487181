-- Seats that are handed over one after the other.
use Rattle.std.specs.Prelude.{◌≡◌, ℕ, ◌+◌, true, List}
use Rattle.atomic_table.specs.Seated.{TableId}
use Rattle.shard_store.specs.declared.tally.Tally.{Tally}
use Rattle.shard_part.specs.Weights.{All}
use Rattle.shard_store.specs.Totals.{total, is}
use Rattle.shard_store.specs.Tallies.{tally_of}
use Rattle.post_floor.specs.Data.{SeatData}
use Rattle.post_floor.specs.declared.view.View.{View}
use Rattle.station.specs.Gather.{counts_of}
use Rattle.station.specs.Station.{StationData}

-- seats of one floor that have seen the end; together with the stations that are left they are
-- those of all stations, by shards and by what they counted, and the tally counts what they did
pub record AreHanded {S V : Type 0} (id : TableId) (all left : List (StationData S V)) (seats : List (SeatData S V)) (tally : Tally) : Type 0 where
  pub own : All (λ d. d.floor ≡ id) seats
  pub seen : All (λ d. d.knows.seen ≡ true) seats
  pub shards : (j : ℕ) → total (λ d. is j d.shard) seats + total (λ s. is j s.part.shard) left ≡ total (λ s. is j s.part.shard) all
  pub sums : (f : View S V → ℕ) → total (λ d. f d.knows) seats + total (λ s. f s.seat.knows) left ≡ total (λ s. f s.seat.knows) all
  pub counted : tally ≡ tally_of (counts_of seats)

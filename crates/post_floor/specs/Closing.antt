-- Seats that are joined when a floor is closed.
use Rattle.std.specs.Prelude.{◌≡◌, ℕ, ◌+◌, ◌<◌, true, List, map}
use mathlib.Core.Option.{some}
use Rattle.path_algebra.specs.Algebra.{Algebra}
use Rattle.shard_store.specs.Setup.{SetupData}
use Rattle.shard_part.specs.PartState.{PartData}
use Rattle.shard_store.specs.Totals.{total, is}
use Rattle.shard_part.specs.Weights.{All}
use Rattle.post_floor.specs.declared.view.View.{View}
use Rattle.post_floor.specs.Floor.{Slot, FinalView}
use Rattle.post_floor.specs.Seats.{spent}
use Rattle.post_floor.specs.Data.{SeatData}

-- each of n shards has a seat among these
abbrev pub AllSeated : {S V : Type 0} → ℕ → List (SeatData S V) → Type 0
AllSeated n seats = (j : ℕ) → j < n → 0 < total (λ d. is j d.shard) seats

-- the view w has the parts and the counts of v and of the seats, and has seen what one of these has
-- seen
pub record AreJoined {S V : Type 0} (w v : View S V) (seats : List (SeatData S V)) : Type 0 where
  pub parts : (f : PartData S V → ℕ) → total f w.parts ≡ total f v.parts + total (λ d. total f d.knows.parts) seats
  pub shards : (j : ℕ) → total (λ p. is j p.shard) w.parts ≡ total (λ p. is j p.shard) v.parts + total (λ d. is j d.shard) seats
  pub sent : w.sent ≡ v.sent + total (λ d. d.knows.sent) seats
  pub delivered : w.delivered ≡ v.delivered + total (λ d. d.knows.delivered) seats
  pub signalled : w.signalled ≡ v.signalled + total (λ d. d.knows.signalled) seats
  pub accepted : w.accepted ≡ v.accepted + total (λ d. d.knows.accepted) seats
  pub seen : v.seen ≡ true → w.seen ≡ true
  pub all_seen : All (λ d. d.knows.seen ≡ true → w.seen ≡ true) seats

-- a closed floor: its words and slots as they were at the end
pub record ClosedData (V : Type 0) : Type 0 where
  pub words : List ℕ
  pub slots : List (Slot V)

-- what all seats of a floor know together, with what the mailboxes held at the end, represents one
-- reached state, their counts are what its events did, and it has ended if the done word says so or
-- one seat has seen that
abbrev pub IsClosed : {S V : Type 0} → (S → Algebra V) → SetupData S → List (SeatData S V) → ClosedData V → Type 0
IsClosed {S} {V} meaning t seats d = (w : View S V) × AreJoined w spent seats × FinalView meaning t w d.words (map some d.slots)

-- A station within a turn.
use Rattle.std.specs.Prelude.{◌≡◌, ◌≢◌, ℕ, Bool, true, false, eqb, List, [], ◌∷◌, ◌++◌, length, get_or}
use Rattle.path_algebra.specs.Algebra.{Algebra}
use Rattle.scholten_core.specs.declared.item.Item.{Item}
use Rattle.shard_part.specs.Arriving.{joined}
use Rattle.shard_part.specs.PartState.{PartData}
use Rattle.post_floor.specs.Boxes.{box_count}
use Rattle.post_floor.specs.Data.{FloorData, SeatData, IsAt, fill_box, read_box}
use Rattle.post_floor.specs.Plays.{IsViewOf, HoldsReachedShare, published_to}
use Rattle.station.specs.Station.{IsFree}
use Rattle.station.specs.Tries.{at, if_found, IsTry, AreTries, used}
use Rattle.station.specs.Turn.{received, SentOff}

module _ {S V : Type 0} where
  -- the seat is one of the floor's, and its view has the part, which is of the floor's diffusion;
  -- it is filling no mailbox and reading none
  pub record AreReady (f : FloorData S) (d : SeatData S V) (p : PartData S V) : Type 0 where
    pub floor : d.floor ≡ f.id
    pub setup : p.setup ≡ f.setup
    pub shard : d.shard ≡ p.shard
    pub free : IsFree d.knows
    pub shows : IsViewOf d.knows p

  -- the same, except that the part may have moved on from the one in the view by items of its own
  pub record AreBehind (meaning : S → Algebra V) (f : FloorData S) (d : SeatData S V) (p : PartData S V) : Type 0 where
    pub at : IsAt meaning f d p
    pub shard : d.shard ≡ p.shard
    pub free : IsFree d.knows

  -- the outbox to another shard was published, and was not empty, or nothing was
  abbrev pub WentOff : Bool → ℕ → PartData S V → PartData S V → Type 0
  WentOff true to p q = (to ≢ p.shard) × (get_or p.outs to [] ≢ []) × (q ≡ published_to to p)
  WentOff false to p q = q ≡ p

  -- the next mailbox from a shard was tried, if it is another one
  pub record TriedFrom (f : FloorData S) (from : ℕ) (found : Bool) (d e : SeatData S V) : Type 0 where
    pub shard : e.shard ≡ d.shard
    pub try : IsTry 2 0 (from ≢ d.shard) (read_box f d from) found d.knows.steps e.knows.steps
    pub next_read : e.knows.next_read ≡ used (if_found found from) d.knows.next_read
    pub next_fill : e.knows.next_fill ≡ d.knows.next_fill

  -- the next mailbox from each other one of the first n shards was tried, and `count` were found
  -- full
  pub record AllTriedFrom (f : FloorData S) (n count : ℕ) (d e : SeatData S V) : Type 0 where
    pub shard : e.shard ≡ d.shard
    pub full : List ℕ
    pub taken : length full ≡ count
    pub tries : AreTries 2 0 (λ j. j ≢ d.shard) (read_box f d) n full d.knows.steps e.knows.steps
    pub next_read : e.knows.next_read ≡ used full d.knows.next_read
    pub next_fill : e.knows.next_fill ≡ d.knows.next_fill

  -- the next mailbox to a shard was tried, if it is another one and something waits for it in the
  -- part
  pub record TriedTo (f : FloorData S) (to : ℕ) (found : Bool) (p : PartData S V) (d e : SeatData S V) : Type 0 where
    pub shard : e.shard ≡ d.shard
    pub try : IsTry 0 2 ((to ≢ d.shard) × (get_or p.outs to [] ≢ [])) (fill_box f d to) found d.knows.steps e.knows.steps
    pub next_fill : e.knows.next_fill ≡ used (if_found found to) d.knows.next_fill
    pub next_read : e.knows.next_read ≡ d.knows.next_read

  -- the next mailbox to each other one of the first n shards for which something waits was tried,
  -- and `count` outboxes were published
  pub record AllTriedTo (f : FloorData S) (n count : ℕ) (p q : PartData S V) (d e : SeatData S V) : Type 0 where
    pub shard : e.shard ≡ d.shard
    pub outboxes : List ℕ
    pub published : length outboxes ≡ count
    pub sent : SentOff outboxes p q
    pub tries : AreTries 0 2 (λ j. (j ≢ d.shard) × (get_or p.outs j [] ≢ [])) (fill_box f d) n outboxes d.knows.steps e.knows.steps
    pub next_fill : e.knows.next_fill ≡ used outboxes d.knows.next_fill
    pub next_read : e.knows.next_read ≡ d.knows.next_read

  -- one step was made at the done word, and `ended` says whether it found 1
  pub record Looked (f : FloorData S) (ended : Bool) (d e : SeatData S V) : Type 0 where
    pub number : ℕ
    pub step : e.knows.steps ≡ d.knows.steps ++ at (box_count f.setup.plan.shards) number ∷ []
    pub end_is : ended ≡ eqb number 1
    pub next_read : e.knows.next_read ≡ d.knows.next_read
    pub next_fill : e.knows.next_fill ≡ d.knows.next_fill

module _ {S V : Type 0} (meaning : S → Algebra V) where
  -- a batch was received, with which the part holds its share of a state, or none was
  abbrev pub CameIn : Bool → PartData S V → PartData S V → Type 0
  CameIn true p q = ((xs : List (Item V)) × (q ≡ joined p xs)) × HoldsReachedShare meaning q
  CameIn false p q = q ≡ p

  -- n batches were received, and with them the part holds its share of a state
  abbrev pub AllCameIn : ℕ → PartData S V → PartData S V → Type 0
  AllCameIn n p q = (batches : List (List (Item V))) × (length batches ≡ n) × (q ≡ received p batches) × HoldsReachedShare meaning q

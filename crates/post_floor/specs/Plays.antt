-- What a seat knows of its part, and what the steps report.
use Rattle.std.specs.Prelude.{◌≡◌, ◌≢◌, ℕ, ◌+◌, ◌<◌, Bool, true, false, cond, eqb, List, [], ◌∷◌, ◌++◌, set, get_or, min}
use Rattle.std.specs.Prelude as std
use Rattle.atomic_table.specs.Table.{Me, rest}
use Rattle.circular_buffer.specs.Buffer.{buffer}
use Rattle.path_algebra.specs.Algebra.{Algebra}
use Rattle.scholten_core.specs.declared.event.Event.{Event}
use Rattle.scholten_core.specs.declared.item.Item.{Item}
use Rattle.scholten_core.specs.Diffusion.{HasEnded, IsQuiet}
use Rattle.shard_store.specs.Tallies.{top}
use Rattle.shard_store.specs.Setup.{SetupData}
use Rattle.shard_part.specs.PartState.{PartData}
use Rattle.shard_part.specs.Handling.{HandledAll}
use Rattle.shard_part.specs.Represents.{HoldsShare, core_of}
use Rattle.shard_part.specs.Arriving.{joined, MayReceive}
use Rattle.post_floor.specs.declared.view.View.{View}
use Rattle.post_floor.specs.Boxes.{empty, full, done_now, next_slot, mailbox, origin, dest, IsBetween}
use Rattle.post_floor.specs.Floor.{Slot, mailbox_capacity, empty_slot, fill_claims, read_claims}

-- the list with its first k left out
abbrev pub without : ℕ → List ℕ → List ℕ
without k [] = []
without k (x ∷ xs) = cond (eqb k x) xs (x ∷ without k xs)

module _ {S V : Type 0} where
  -- the view has the part alone, and the part's counters are the view's counts, each held at the
  -- top
  pub record IsViewOf (v : View S V) (p : PartData S V) : Type 0 where
    pub parts : v.parts ≡ p ∷ []
    pub sent : p.sent ≡ min v.sent top
    pub delivered : p.delivered ≡ min v.delivered top
    pub signalled : p.signalled ≡ min v.signalled top
    pub accepted : p.accepted ≡ min v.accepted top

  -- the view w is u, except that it has p as it is now, with its counts
  pub record StepsTo (u : View S V) (p : PartData S V) (w : View S V) : Type 0 where
    pub shows : IsViewOf w p
    pub fills : w.fills ≡ u.fills
    pub reads : w.reads ≡ u.reads
    pub next_fill : w.next_fill ≡ u.next_fill
    pub next_read : w.next_read ≡ u.next_read
    pub steps : w.steps ≡ u.steps
    pub seen : w.seen ≡ u.seen

  -- it made one step more, which found the number x in the word k, or stored it there
  abbrev pub at_word : ℕ → ℕ → View S V → View S V
  at_word k x v = record v { steps = v.steps ++ record { word = k; number = x } ∷ [] }

  -- it begins to fill the mailbox k
  abbrev pub begin_fill : ℕ → View S V → View S V
  begin_fill k v = record v { fills = k ∷ v.fills }

  -- it has filled the mailbox k, which leads to a shard
  abbrev pub end_fill : ℕ → ℕ → View S V → View S V
  end_fill to k v = record v { fills = without k v.fills; next_fill = set v.next_fill to (next_slot (get_or v.next_fill to 0)) }

  -- it begins to read the mailbox k
  abbrev pub begin_read : ℕ → View S V → View S V
  begin_read k v = record v { reads = k ∷ v.reads }

  -- it has read the mailbox k, which comes from a shard
  abbrev pub end_read : ℕ → ℕ → View S V → View S V
  end_read from k v = record v { reads = without k v.reads; next_read = set v.next_read from (next_slot (get_or v.next_read from 0)) }

  -- it has seen that the end was announced
  abbrev pub see : View S V → View S V
  see v = record v { seen = true }

  -- the part, its outbox to a shard empty
  abbrev pub published_to : ℕ → PartData S V → PartData S V
  published_to to p = record p { outs = set p.outs to [] }

  -- the seat has no claim on the mailbox k
  abbrev pub Unclaimed : ℕ → View S V → Type 0
  Unclaimed k v = (fill_claims k v ≡ 0) × (read_claims k v ≡ 0)

  -- the mailbox k leads from one of n shards to another, and is the next that the view fills there
  pub record IsNextFill (n from to k : ℕ) (v : View S V) : Type 0 where
    pub between : IsBetween n from to k
    pub below : to < n
    pub slot : k ≡ mailbox n from to (get_or v.next_fill to 0)

  -- the same, and is the next that the view reads there
  pub record IsNextRead (n from to k : ℕ) (v : View S V) : Type 0 where
    pub between : IsBetween n from to k
    pub below : from < n
    pub slot : k ≡ mailbox n from to (get_or v.next_read from 0)

  -- the slot k was taken last, and is empty
  abbrev pub HasEmpty : SetupData S → ℕ → Me (Slot V) (View S V) → Type 0
  HasEmpty t k m = m.1 ≡ (k, empty_slot t k) ∷ rest m.1

module _ {S V : Type 0} (meaning : S → Algebra V) where
  -- the part has moved on from the one in the view, by items of its own
  abbrev pub ViewLags : View S V → PartData S V → Type 0
  ViewLags v d = (b : PartData S V) × (items : List (Item V)) × IsViewOf v b × HandledAll meaning b items d

  -- the part holds its share of a state that some events lead to
  abbrev pub HoldsReachedShare : PartData S V → Type 0
  HoldsReachedShare p = (events : List Event) × HoldsShare meaning (core_of meaning p.setup events) p

  -- the part holds its share of a state that some events lead to, and that state has ended and is
  -- quiet
  abbrev pub HoldsEndedShare : PartData S V → Type 0
  HoldsEndedShare p = (events : List Event) × HoldsShare meaning (core_of meaning p.setup events) p × HasEnded (core_of meaning p.setup events) × IsQuiet (core_of meaning p.setup events)

  abbrev pub FillStep : PartData S V → ℕ → Me (Slot V) (View S V) → ℕ → Me (Slot V) (View S V) → Type 0
  FillStep p k m r m' =
      (r ≡ empty → StepsTo (at_word k empty (begin_fill k m.0)) p m'.0 × (m'.1 ≡ (k, empty_slot p.setup k) ∷ m.1) × Unclaimed k m.0)
      × (r ≢ empty → StepsTo (at_word k r m.0) p m'.0 × (m'.1 ≡ m.1))

  abbrev pub PublishStep : PartData S V → ℕ → Me (Slot V) (View S V) → Me (Slot V) (View S V) → Type 0
  PublishStep p k m m' = StepsTo (at_word k full (end_fill (dest p.setup.plan.shards k) k m.0)) p m'.0 × (m'.1 ≡ rest m.1)

  abbrev pub ReadStep : PartData S V → ℕ → Me (Slot V) (View S V) → ℕ → Me (Slot V) (View S V) → Type 0
  ReadStep p k m r m' =
      (r ≡ full → (xs : List (Item V)) × StepsTo (at_word k full (begin_read k m.0)) (joined p xs) m'.0 × (m'.1 ≡ (k, std.Some (buffer xs (mailbox_capacity p.setup k))) ∷ m.1) × MayReceive meaning p xs × Unclaimed k m.0 × HoldsReachedShare (joined p xs))
      × (r ≢ full → StepsTo (at_word k r m.0) p m'.0 × (m'.1 ≡ m.1))

  abbrev pub ClearStep : PartData S V → ℕ → Me (Slot V) (View S V) → Me (Slot V) (View S V) → Type 0
  ClearStep p k m m' = StepsTo (at_word k empty (end_read (origin p.setup.plan.shards k) k m.0)) p m'.0 × (m'.1 ≡ rest m.1)

  abbrev pub LookStep : PartData S V → ℕ → Me (Slot V) (View S V) → ℕ → Me (Slot V) (View S V) → Type 0
  LookStep p k m r m' = (r ≡ done_now → StepsTo (at_word k done_now (see m.0)) p m'.0 × HoldsEndedShare p) × (r ≢ done_now → StepsTo (at_word k r m.0) p m'.0 × HoldsReachedShare p) × (m'.1 ≡ m.1)

  abbrev pub AnnounceStep : PartData S V → ℕ → Me (Slot V) (View S V) → Me (Slot V) (View S V) → Type 0
  AnnounceStep p k m m' = StepsTo (at_word k done_now (see m.0)) p m'.0 × HoldsEndedShare p × (m'.1 ≡ m.1)

module _ {S V : Type 0} where
  -- what a try_fill of the mailbox k reports: true if it found it empty, and then the seat fills
  -- it; false if it did not
  abbrev pub FillOutcome : Bool → PartData S V → ℕ → View S V → View S V → Type 0
  FillOutcome true p k v w = StepsTo (at_word k empty (begin_fill k v)) p w
  FillOutcome false p k v w = (x : ℕ) × (x ≢ empty) × StepsTo (at_word k x v) p w

  -- what holds after publishing into the mailbox k, which leads to a shard: it is full, and the
  -- seat fills it no more
  abbrev pub PublishOutcome : ℕ → PartData S V → ℕ → View S V → View S V → Type 0
  PublishOutcome to p k v w = StepsTo (at_word k full (end_fill to k v)) p w

  -- what holds after clearing the mailbox k, which comes from a shard: it is empty, and the seat
  -- reads it no more
  abbrev pub ClearOutcome : ℕ → PartData S V → ℕ → View S V → View S V → Type 0
  ClearOutcome from p k v w = StepsTo (at_word k empty (end_read from k v)) p w

module _ {S V : Type 0} (meaning : S → Algebra V) where
  -- What a try_read of the mailbox k reports, which takes the part from p to q. True if it found it
  -- full: the batch is in the queue, the seat reads the mailbox now, and the part, with its batch,
  -- holds its share of a state that some events lead to. False if it did not.
  abbrev pub ReadOutcome : Bool → PartData S V → PartData S V → ℕ → View S V → View S V → Type 0
  ReadOutcome true p q k v w = ((xs : List (Item V)) × (q ≡ joined p xs)) × StepsTo (at_word k full (begin_read k v)) q w × HoldsReachedShare meaning q
  ReadOutcome false p q k v w = (q ≡ p) × (x : ℕ) × (x ≢ full) × StepsTo (at_word k x v) q w

  -- what a look at the done word k reports: true if it found the end announced, and then the part
  -- holds its share of an ended state; false if it did not
  abbrev pub LookOutcome : Bool → PartData S V → ℕ → View S V → View S V → Type 0
  LookOutcome true p k v w = StepsTo (at_word k done_now (see v)) p w × HoldsEndedShare meaning p
  LookOutcome false p k v w = (x : ℕ) × (x ≢ done_now) × StepsTo (at_word k x v) p w × HoldsReachedShare meaning p

  -- what fetching the batch of the mailbox k reports: if it succeeds, the slot is out with the
  -- seat, and empty
  abbrev pub BatchOutcome : Bool → PartData S V → PartData S V → ℕ → Me (Slot V) (View S V) → Me (Slot V) (View S V) → Type 0
  BatchOutcome true p q k m m' = ReadOutcome true p q k m.0 m'.0 × (m'.1 ≡ (k, empty_slot q.setup k) ∷ m.1) × Unclaimed k m.0
  BatchOutcome false p q k m m' = ReadOutcome false p q k m.0 m'.0 × (m'.1 ≡ m.1)

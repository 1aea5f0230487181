-- What one turn does to a station.
use Rattle.std.specs.Prelude.{◌≡◌, ◌≢◌, ◌⊎◌, ℕ, ◌+◌, ◌-◌, ◌*◌, ◌<◌, ◌≤◌, Bool, true, false, eqb, ⊤, Option, Some, None, IsTrue, List, [], ◌∷◌, ◌++◌, length, get_or}
use Rattle.path_algebra.specs.Algebra.{Algebra}
use Rattle.scholten_core.specs.declared.item.Item.{Item}
use Rattle.shard_store.specs.Queue.{IsHeldBy}
use Rattle.shard_store.specs.declared.queue_order.QueueOrder.TheVariants.{Arrival}
use Rattle.shard_part.specs.Arriving.{joined}
use Rattle.shard_part.specs.PartState.{PartData, state_in}
use Rattle.shard_part.specs.Part.{HandledMany, HandledWithin, IsHeldBack, IsRunOn, RunsAhead, RunsOn}
use Rattle.shard_part.specs.Readings.{IsOwn, has_ended}
use Rattle.post_floor.specs.Boxes.{box_count}
use Rattle.post_floor.specs.Data.{FloorData, SeatData, fill_box, read_box}
use Rattle.post_floor.specs.Hints.{IsBestShown}
use Rattle.post_floor.specs.Plays.{HoldsReachedShare, published_to}
use Rattle.station.specs.declared.turn.Report.{Report}
use Rattle.station.specs.Station.{StationData, BelongsTo, ReportedEnd}
use Rattle.post_floor.specs.declared.view.WordStep.{WordStep}
use Rattle.station.specs.Tries.{at, AreTries, used}

-- a label that stays or improves: a value stays one, and the later one is no worse
abbrev pub StaysOrImproves : {V : Type 0} → Algebra V → Option V → Option V → Type 0
StaysOrImproves {V} A before after = (x : V) → before ≡ Some x → (y : V) × (after ≡ Some y) × IsTrue (A.no_worse y x)

-- parts at such a floor are never held back: one is alone, or they take their items in the order of
-- arrival, or it was not asked for
abbrev pub HoldsNothingBack : {S : Type 0} → FloorData S → Type 0
HoldsNothingBack f = (f.setup.plan.shards ≡ 1) ⊎ ((f.setup.order ≡ Arrival) ⊎ (f.ahead ≡ None))

module _ {S V : Type 0} where
  -- The limit holds back all that waits at the part. It is the best value that is shown of the
  -- other shards, after one more arc of the weight by which a shard may run ahead, and all that
  -- waits is worse than that best value: no signal waits there, and no message that is no worse.
  -- Which values may be shown of a shard is not promised.
  pub record IsBehindOthers (A : Algebra V) (ahead : Option ℕ) (limit : Option V) (p : PartData S V) : Type 0 where
    pub held : IsHeldBack A.no_worse limit p
    pub best : V
    pub shown : IsBestShown A (λ _ _. ⊤) p.setup.plan.shards p.shard (Some best)
    pub weight : ℕ
    pub weight_is : ahead ≡ Some weight
    pub limit_is : A.extend best weight ≡ limit
    pub behind : IsHeldBy A.no_worse best p.queue

  -- Of the items of a part, which is p then, as many were handled as the budget allows, or all, or
  -- what is left is held back: by the limit, or since the part is ahead of what it has sent by more
  -- than the weight by which it may run ahead.
  abbrev pub IsAsFar : Algebra V → (budget handled : ℕ) → Bool → (limit : Option V) → (ahead : Option ℕ) → PartData S V → Type 0
  IsAsFar A budget handled held limit ahead p = (handled ≡ budget) ⊎ ((p.queue ≡ []) ⊎ (IsTrue held × (IsBehindOthers A ahead limit p ⊎ RunsAhead A ahead p)))

  -- batches were received, one after the other, each at the back of the queue
  abbrev pub received : PartData S V → List (List (Item V)) → PartData S V
  received p [] = p
  received p (batch ∷ batches) = received (joined p batch) batches

  -- the outboxes to these shards, each other than the part's own, were published one after the
  -- other, and none was empty
  abbrev pub SentOff : List ℕ → PartData S V → PartData S V → Type 0
  SentOff [] p q = p ≡ q
  SentOff (to ∷ shards) p q = (to ≢ p.shard) × (get_or p.outs to [] ≢ []) × SentOff shards (published_to to p) q

  -- The steps of one turn on words, where p is the part when its items were handled. The next
  -- mailbox from each other shard was tried, in order, and if it was found full (2), it was emptied
  -- and 0 stored; then the next one to each other shard for which something waited in p, and if it
  -- was found free (0), the outbox went into it and 2 was stored; then one step was made at the
  -- done word. There were no others.
  pub record Tried (f : FloorData S) (before : SeatData S V) (p : PartData S V) (r : Report) (outboxes : List ℕ) (after : SeatData S V) : Type 0 where
    pub full : List ℕ  -- the shards whose mailbox was found full
    pub taken : length full ≡ r.taken
    pub read : List WordStep  -- the steps made when all had been read
    pub reads : AreTries 2 0 (λ j. j ≢ before.shard) (read_box f before) f.setup.plan.shards full before.knows.steps read
    pub filled : List WordStep  -- and when all had been filled
    pub fills : AreTries 0 2 (λ j. (j ≢ before.shard) × (get_or p.outs j [] ≢ [])) (fill_box f before) f.setup.plan.shards outboxes read filled
    pub number : ℕ  -- what the done word showed last
    pub looked : after.knows.steps ≡ filled ++ at (box_count f.setup.plan.shards) number ∷ []
    pub end_is : r.ended ≡ eqb number 1
    pub next_read : after.knows.next_read ≡ used full before.knows.next_read
    pub next_fill : after.knows.next_fill ≡ used outboxes before.knows.next_fill

module _ {S V : Type 0} (meaning : S → Algebra V) where
  -- The part took batches, handled items of its queue one after the other, and published outboxes.
  -- With the batches it held its share of a state that some events lead to. Handling the items is
  -- that many core events: in that state, and in every state of which the part held its share, they
  -- are enabled, each in its turn.
  pub record Worked (f : FloorData S) (budget : ℕ) (p : PartData S V) (r : Report) (q : PartData S V) : Type 0 where
    pub batches : List (List (Item V))
    pub taken : length batches ≡ r.taken
    pub filled : PartData S V  -- with the batches
    pub received_all : filled ≡ received p batches
    pub emptied : PartData S V  -- and when the items were handled
    pub handled : HandledMany meaning filled r.handled emptied
    pub known : HoldsReachedShare meaning filled
    pub events : IsRunOn meaning known.0 filled r.handled emptied
    pub in_each : RunsOn meaning filled r.handled emptied
    pub outboxes : List ℕ
    pub published : length outboxes ≡ r.published
    pub sent : SentOff outboxes emptied q
    pub within : r.handled ≤ budget
    pub limit : Option V  -- how far it might run ahead of the others
    pub in_limit : HandledWithin meaning limit filled r.handled emptied
    pub all : IsAsFar (meaning p.setup.diffusion.algebra) budget r.handled r.held limit f.ahead emptied
    -- where nothing is held back, as many items were handled as the budget allows, or the queue is
    -- empty at the return
    pub alone : HoldsNothingBack f → (r.handled ≡ budget) ⊎ (q.queue ≡ [])
    pub waits : IsTrue r.held → (r.handled < budget) × (0 < length q.queue)  -- so none is reported held back then

  -- What one turn on the floor makes of a station, and reports. After the end it does nothing.
  pub record Turned (f : FloorData S) (budget : ℕ) (before : StationData S V) (r : Report) (after : StationData S V) : Type 0 where
    pub own : BelongsTo f after
    pub shard : after.part.shard ≡ before.part.shard
    pub seat : after.seat.shard ≡ after.part.shard
    pub worked : Worked f budget before.part r after.part
    pub labels : (v : ℕ) → IsOwn before.part v → StaysOrImproves (meaning before.part.setup.diffusion.algebra) ((state_in before.part).label v) ((state_in after.part).label v)
    pub tried : before.ended ≡ false → Tried f before.seat worked.emptied r worked.outboxes after.seat
    pub steps : length after.seat.knows.steps ≤ length before.seat.knows.steps + 4 * (f.setup.plan.shards - 1) + 1
    pub report : r.ended ≡ after.ended
    pub announced : has_ended after.part ≡ true → r.ended ≡ true
    pub stays : ReportedEnd before → (after ≡ before) × (r ≡ record { handled = 0; taken = 0; published = 0; held = false; ended = true })

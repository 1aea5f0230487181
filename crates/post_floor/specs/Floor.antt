-- How views and mailboxes represent a state, and the rule of the floor.
use Rattle.std.specs.Prelude.{◌≡◌, ◌≢◌, ◌⊎◌, ℕ, ◌+◌, ◌<◌, ◌≤◌, true, cond, eqb, List, [], ◌∷◌, ◌++◌, length, get_or}
use Rattle.std.specs.Prelude as std
use mathlib.Core.Option.{Option, none, some}
use lib.ListN.{get_elem?}
use Rattle.atomic_table.specs.Table.{State}
use Rattle.circular_buffer.specs.Buffer.{Buffer, buffer}
use Rattle.path_algebra.specs.Algebra.{Algebra}
use Rattle.scholten_core.specs.declared.event.Event.{Event}
use Rattle.scholten_core.specs.declared.item.Item.{Item}
use Rattle.scholten_core.specs.Accounts.{Totals, totals_of}
use Rattle.scholten_core.specs.Diffusion.{HasEnded, IsQuiet}
use Rattle.scholten_core.specs.Reached.{LabelsAreBest}
use Rattle.scholten_core.specs.Sums.{sum_below}
use Rattle.shard_store.specs.Setup.{SetupData, network_of, place_in, IsPlanned}
use Rattle.shard_part.specs.PartState.{PartData}
use Rattle.shard_store.specs.Totals.{total, is}
use Rattle.shard_part.specs.Weights.{All, part_weight}
use Rattle.shard_store.specs.Capacities.{outbox_bound}
use Rattle.shard_part.specs.Represents.{Represents, core_of}
use Rattle.shard_part.specs.Arriving.{MadeAt}
use Rattle.shard_part.specs.OnePart.{AreBestFirstIfOne, OwnOutboxIsEmpty}
use Rattle.post_floor.specs.declared.view.View.{View}
use Rattle.post_floor.specs.Boxes.{empty, filling, full, reading, done_now, box_count, mailbox, dest, origin, AreInOrder}

-- what a slot holds: its batch, or nothing while a call is moving it
abbrev pub Slot : Type 0 → Type 0
Slot V = std.Option (Buffer (Item V))

-- where a slot is: outside the table, out with a seat, or in the table
abbrev pub Place : Type 0 → Type 0
Place V = Option (Option (Slot V))

-- the words of a pair's slots, by slot
abbrev pub words_between : ℕ → List ℕ → (from to slot : ℕ) → ℕ
words_between n words from to slot = get_or words (mailbox n from to slot) 0

module _ {S V : Type 0} where
  -- the parts of all views
  abbrev pub flat : List (View S V) → List (PartData S V)
  flat [] = []
  flat (v ∷ vs) = v.parts ++ flat vs

  -- how many claims a view has to fill the mailbox k, and to read it
  abbrev pub fill_claims : ℕ → View S V → ℕ
  fill_claims k v = total (is k) v.fills

  abbrev pub read_claims : ℕ → View S V → ℕ
  read_claims k v = total (is k) v.reads

  -- the counts of the views add up to these
  pub record AddUp (views : List (View S V)) (n : Totals) : Type 0 where
    pub sent : total (λ v. v.sent) views ≡ n.sent
    pub delivered : total (λ v. v.delivered) views ≡ n.delivered
    pub signalled : total (λ v. v.signalled) views ≡ n.signalled
    pub accepted : total (λ v. v.accepted) views ≡ n.accepted

  -- the view has counted nothing
  pub record CountsNone (v : View S V) : Type 0 where
    pub sent : v.sent ≡ 0
    pub delivered : v.delivered ≡ 0
    pub signalled : v.signalled ≡ 0
    pub accepted : v.accepted ≡ 0

  -- the view has the part p among its parts, and a next slot to and from each of n shards
  pub record IsSeatOf (n : ℕ) (v : View S V) (p : PartData S V) : Type 0 where
    pub place : ℕ
    pub has : get_elem? v.parts place ≡ some p
    pub below : p.shard < n
    pub fills : length v.next_fill ≡ n
    pub reads : length v.next_read ≡ n

  -- The slots between each two of n shards are in order, by the next slots that the views of their
  -- parts have: those that are full are consecutive, from the receiver's next slot to the one
  -- before the sender's next.
  abbrev pub AreAllInOrder : ℕ → List ℕ → List (View S V) → Type 0
  AreAllInOrder n words views = (i j : ℕ) (v w : View S V) (p q : PartData S V) → get_elem? views i ≡ some v → get_elem? views j ≡ some w
      → IsSeatOf n v p → IsSeatOf n w q → p.shard ≢ q.shard
      → AreInOrder (words_between n words p.shard q.shard) (get_or w.next_read p.shard 0) (get_or v.next_fill q.shard 0)

module _ {V : Type 0} where
  abbrev pub load : (Item V → ℕ) → Slot V → ℕ
  load f (std.Some b) = total f b.items
  load f std.None = 0

  abbrev pub load_home : (Item V → ℕ) → Option (Slot V) → ℕ
  load_home f none = 0
  load_home f (some y) = load f y

  abbrev pub load_place : (Item V → ℕ) → Place V → ℕ
  load_place f none = 0
  load_place f (some y) = load_home f y

  -- a mailbox weighs as much as its batch if it is full, and nothing otherwise
  abbrev pub box : (Item V → ℕ) → ℕ → Place V → ℕ
  box f w y = cond (eqb w full) (load_place f y) 0

  -- what the mailboxes weigh
  abbrev pub in_transit : ℕ → List ℕ → List (Option (Slot V)) → (ℕ → Item V → ℕ) → ℕ
  in_transit n ws hs h = sum_below (λ k. box (h (dest n k)) (get_or ws k 0) (get_elem? hs k)) (box_count n)

-- how many items a mailbox may hold: one for each arc between its shards
abbrev pub mailbox_capacity : {S : Type 0} → SetupData S → ℕ → ℕ
mailbox_capacity t k = cond (eqb (origin t.plan.shards k) (dest t.plan.shards k)) 0 (outbox_bound (network_of t) (place_in t) (origin t.plan.shards k) (dest t.plan.shards k))

-- an empty batch of the mailbox's capacity
abbrev pub empty_slot : {S V : Type 0} → SetupData S → ℕ → Slot V
empty_slot t k = std.Some (buffer [] (mailbox_capacity t k))

-- one mailbox: its word, its slot, and how many claims views have on it
pub record MailboxInvariant {S V : Type 0} (t : SetupData S) (k w : ℕ) (y : Place V) (fills reads : ℕ) : Type 0 where
  pub low : w ≤ reading
  pub fills_is : fills ≡ is filling w
  pub reads_is : reads ≡ is reading w
  pub empty_home : w ≡ empty → y ≡ some (some (empty_slot t k))
  pub full_home : w ≡ full → (xs : List (Item V)) × (y ≡ some (some (std.Some (buffer xs (mailbox_capacity t k))))) × MadeAt t (origin t.plan.shards k) xs
  pub apart : w ≡ full → origin t.plan.shards k ≢ dest t.plan.shards k
  -- it is out with the seat that fills or reads it
  pub out : (w ≡ filling) ⊎ (w ≡ reading) → y ≡ some none

module _ {S V : Type 0} (meaning : S → Algebra V) (t : SetupData S) where
  -- What holds between any two steps: some events lead from the opening to a state that all views
  -- and all mailboxes represent, the views are of all shards, their counts add up to what the
  -- events did, each mailbox is as its word says, the slots between two shards are in order, and
  -- the done word says so only if the state has ended. No part has an item in its outbox to its own
  -- shard, and if there is one part, best first, the events take the best waiting message first.
  pub record FloorInvariant (s : State (Slot V) (View S V)) : Type 0 where
    pub events : List Event
    pub shown : Represents meaning t (flat s.views) (in_transit t.plan.shards s.words s.homes) (core_of meaning t events)
    pub whole : (j : ℕ) → j < t.plan.shards → total (λ p. is j p.shard) (flat s.views) ≡ 1
    pub below : All (λ p. p.shard < t.plan.shards) (flat s.views)
    pub idle : (id : ℕ) (v : View S V) → get_elem? s.views id ≡ some v → v.parts ≡ [] → CountsNone v
    pub counts : AddUp s.views (totals_of (meaning t.diffusion.algebra) (network_of t) events)
    pub boxes : (k : ℕ) → k < box_count t.plan.shards → MailboxInvariant t k (get_or s.words k 0) (get_elem? s.homes k) (total (fill_claims k) s.views) (total (read_claims k) s.views)
    pub done : get_or s.words (box_count t.plan.shards) 0 ≡ done_now → HasEnded (core_of meaning t events)
    pub seen : (id : ℕ) (v : View S V) → get_elem? s.views id ≡ some v → v.seen ≡ true → get_or s.words (box_count t.plan.shards) 0 ≡ done_now
    pub wide : length s.words ≡ box_count t.plan.shards + 1
    pub roomy : length s.homes ≡ box_count t.plan.shards
    pub ordered : AreAllInOrder t.plan.shards s.words s.views
    pub own : All OwnOutboxIsEmpty (flat s.views)
    pub best : IsPlanned t 0 → AreBestFirstIfOne meaning t events

  -- one view has all parts of a diffusion: with the mailboxes it represents a state that some
  -- events lead to, its counts are what these did, and if the done word says so, or it has seen
  -- that, the state has ended
  pub record FinalView (v : View S V) (ws : List ℕ) (hs : List (Option (Slot V))) : Type 0 where
    pub events : List Event
    pub shown : Represents meaning t v.parts (in_transit t.plan.shards ws hs) (core_of meaning t events)
    pub counts : AddUp (v ∷ []) (totals_of (meaning t.diffusion.algebra) (network_of t) events)
    pub done : get_or ws (box_count t.plan.shards) 0 ≡ done_now → HasEnded (core_of meaning t events)
    pub seen : v.seen ≡ true → HasEnded (core_of meaning t events)
    pub best : IsPlanned t 0 → AreBestFirstIfOne meaning t events

  -- after these events all is over: parts and mailboxes represent a state that has ended and is
  -- quiet, its labels are best, and no queue, outbox or mailbox holds an item
  pub record RepresentsQuiet (parts : List (PartData S V)) (mailed : (ℕ → Item V → ℕ) → ℕ) (events : List Event) : Type 0 where
    pub shown : Represents meaning t parts mailed (core_of meaning t events)
    pub ended : HasEnded (core_of meaning t events)
    pub quiet : IsQuiet (core_of meaning t events)
    pub best : LabelsAreBest (meaning t.diffusion.algebra) t.diffusion.roads t.diffusion.source (core_of meaning t events)
    pub empty : total (part_weight (λ _ _. 1)) parts + mailed (λ _ _. 1) ≡ 0

module _ {S V : Type 0} where
  -- A part of the view can do nothing: its queue is empty, its next mailbox from each other shard
  -- is not full, and each outbox is empty, or it is for another shard to which the next mailbox is
  -- not empty.
  pub record Rests (n : ℕ) (words : List ℕ) (v : View S V) (p : PartData S V) : Type 0 where
    pub next_fill : length v.next_fill ≡ n
    pub next_read : length v.next_read ≡ n
    pub queue : p.queue ≡ []
    pub from : (j : ℕ) → j < n → j ≢ p.shard → words_between n words j p.shard (get_or v.next_read j 0) ≢ full
    pub to : (j : ℕ) → (get_or p.outs j [] ≡ []) ⊎ ((j < n) × (j ≢ p.shard) × (words_between n words p.shard j (get_or v.next_fill j 0) ≢ empty))

  -- no view has a claim, and no part can do anything
  pub record IsStill (n : ℕ) (s : State (Slot V) (View S V)) : Type 0 where
    pub fills : (k id : ℕ) (v : View S V) → get_elem? s.views id ≡ some v → fill_claims k v ≡ 0
    pub reads : (k id : ℕ) (v : View S V) → get_elem? s.views id ≡ some v → read_claims k v ≡ 0
    pub parts : (id : ℕ) (v : View S V) → get_elem? s.views id ≡ some v → All (Rests n s.words v) v.parts

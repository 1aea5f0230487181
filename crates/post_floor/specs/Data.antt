-- What callers see of a floor and of a seat.
use Rattle.std.specs.Prelude.{◌≡◌, ◌⊎◌, ℕ, ◌+◌, ◌*◌, ◌<◌, ◌≤◌, List, [], ◌∷◌, length, get_or, map}
use Rattle.std.specs.Prelude as std
use mathlib.Core.Option.{some}
use lib.ListN.{get_elem?}
use Rattle.atomic_table.specs.Seated.{TableId}
use Rattle.atomic_table.specs.Table.{rest}
use Rattle.atomic_table.specs.declared.shared.Seat.{Seat}
use Rattle.atomic_table.specs.declared.shared.Shared.{Shared}
use Rattle.circular_buffer.specs.Buffer.{buffer}
use Rattle.path_algebra.specs.Algebra.{Algebra}
use Rattle.shard_store.specs.Setup.{SetupData, IsPlanned}
use Rattle.shard_part.specs.PartState.{PartData}
use Rattle.shard_store.specs.Totals.{total, is}
use Rattle.shard_part.specs.Weights.{All}
use Rattle.shard_part.specs.Arriving.{MadeAt}
use Rattle.post_floor.specs.declared.view.View.{View}
use Rattle.post_floor.specs.Boxes.{slots_per_pair, box_count, mailbox, dest, origin}
use Rattle.post_floor.specs.Floor.{Slot, mailbox_capacity, empty_slot, fill_claims, read_claims}
use Rattle.post_floor.specs.Plays.{ViewLags, published_to}
use Rattle.post_floor.specs.Seats.{knows}
use Rattle.shard_store.specs.Plans.{PlanData}
use Rattle.shard_part.specs.Opening.{opened_parts}

-- a floor: which it is, the diffusion and plan that its parts share, and by what weight a shard may
-- run ahead of the others, if shards are to be held back
pub record FloorData (S : Type 0) : Type 0 where
  pub id : TableId
  pub setup : SetupData S
  pub ahead : std.Option ℕ

-- a seat: which floor it is at, the shard of its part, and what it knows
pub record SeatData (S V : Type 0) : Type 0 where
  pub floor : TableId
  pub shard : ℕ
  pub knows : View S V

-- the table has a word and a slot for each mailbox between the diffusion's shards, and the done
-- word
pub record IsTableSized {S : Type 0} (id : TableId) (t : SetupData S) : Type 0 where
  pub words : id.words ≡ box_count t.plan.shards + 1
  pub slots : id.slots ≡ box_count t.plan.shards
  pub planned : IsPlanned t 0

-- a pass is of a table of the diffusion's size, and the part has moved on from what the pass knows
-- by items of its own
pub record AtTable {S V : Type 0} (meaning : S → Algebra V) (id : TableId) (t : SetupData S) (pass : TableId) (v : View S V) (p : PartData S V) : Type 0 where
  pub sized : IsTableSized id t
  pub own : pass ≡ id
  pub moved : ViewLags meaning v p

-- a step is made of the part: it names the part alone, and the part is at the table
pub record MakesStep {S V P : Type 0} (meaning : S → Algebra V) (table : Shared (Slot V) (View S V) (SetupData S) P) (pass : Seat (Slot V) (View S V)) (named : List (PartData S V)) (p : PartData S V) : Type 0 where
  pub told : named ≡ p ∷ []
  pub at : AtTable meaning table.table_id table.key pass.table_id pass.me.0 p

-- it is the same pass of the same table
abbrev pub IsSamePass : {X Y : Type 0} → Seat X Y → Seat X Y → Type 0
IsSamePass old new = (new.table_id ≡ old.table_id) × (new.id ≡ old.id)

-- The part d is at the table, and e is what is left of it: the slot k was taken last, and has what
-- d had for the mailbox's shard.
pub record Publishing {S V P : Type 0} (meaning : S → Algebra V) (table : Shared (Slot V) (View S V) (SetupData S) P) (pass : Seat (Slot V) (View S V)) (k : ℕ) (e : PartData S V) : Type 0 where
  pub d : PartData S V
  pub at : AtTable meaning table.table_id table.key pass.table_id pass.me.0 d
  pub left : e ≡ published_to (dest table.key.plan.shards k) d
  pub slot : pass.me.1 ≡ (k, std.Some (buffer (get_or d.outs (dest table.key.plan.shards k) []) (mailbox_capacity table.key k))) ∷ rest pass.me.1
  pub made : MadeAt table.key (origin table.key.plan.shards k) (get_or d.outs (dest table.key.plan.shards k) [])

-- the parts of the first n shards of a diffusion, in order, as they are opened
abbrev pub first_parts : {S V : Type 0} → (S → Algebra V) → SetupData S → ℕ → List (PartData S V)
first_parts meaning t n = opened_parts (meaning t.diffusion.algebra) t 0 n

-- the slots of all mailboxes between n shards, each empty
abbrev pub AreEmptySlots : {S V : Type 0} → SetupData S → ℕ → List (Slot V) → Type 0
AreEmptySlots t n slots = (length slots ≡ box_count n) × ((k : ℕ) → k < box_count n → get_elem? slots k ≡ some (empty_slot t k))

-- a next slot for each of n shards
pub record AreSlots (n : ℕ) (next : List ℕ) : Type 0 where
  pub long : length next ≡ n
  pub low : (j : ℕ) → get_or next j 0 < slots_per_pair

-- one end of the mailbox is at the shard s
abbrev pub HasEnd : ℕ → ℕ → ℕ → Type 0
HasEnd n s k = (k < box_count n) × ((origin n k ≡ s) ⊎ (dest n k ≡ s))

-- the slots that a seat has out: those of the mailboxes that it fills or reads, in the order of its
-- claims, each empty, none twice
pub record AreOpen {S V : Type 0} (t : SetupData S) (s : ℕ) (v : View S V) (slots : List (ℕ × Slot V)) (claims : List ℕ) : Type 0 where
  pub keys : map (λ x. x.0) slots ≡ claims
  pub empty : All (λ x. x.1 ≡ empty_slot t x.0) slots
  pub open_now : (k : ℕ) → total (is k) claims ≡ fill_claims k v + read_claims k v
  pub once : (k : ℕ) → total (is k) claims ≤ 1
  pub own : All (HasEnd t.plan.shards s) claims

-- a seat has one part, of its shard; its arrays of next slots are the view's, and its ring of
-- claims has room for all mailboxes with an end at the shard
pub record IsSeat {S V : Type 0} (d : SeatData S V) (slots : List (ℕ × Slot V)) (claims : List ℕ) (room : ℕ) (next_fill next_read : List ℕ) : Type 0 where
  pub part : PartData S V
  pub parts : d.knows.parts ≡ part ∷ []
  pub shard : part.shard ≡ d.shard
  pub below : d.shard < part.setup.plan.shards
  pub fill : d.knows.next_fill ≡ next_fill
  pub read : d.knows.next_read ≡ next_read
  pub fill_slots : AreSlots part.setup.plan.shards next_fill
  pub read_slots : AreSlots part.setup.plan.shards next_read
  pub claims_open : AreOpen part.setup d.shard d.knows slots claims
  pub roomy : room ≡ 8 * part.setup.plan.shards

-- the mailbox from the seat's shard to another that it fills next
abbrev pub fill_box : {S V : Type 0} → FloorData S → SeatData S V → ℕ → ℕ
fill_box f d to = mailbox f.setup.plan.shards d.shard to (get_or d.knows.next_fill to 0)

-- the mailbox from another shard to the seat's that it reads next
abbrev pub read_box : {S V : Type 0} → FloorData S → SeatData S V → ℕ → ℕ
read_box f d from = mailbox f.setup.plan.shards from d.shard (get_or d.knows.next_read from 0)

-- the seat is one of the floor's, the part is of its diffusion, and since the seat's last step the
-- part moved on by items of its own alone
pub record IsAt {S V : Type 0} (meaning : S → Algebra V) (f : FloorData S) (d : SeatData S V) (p : PartData S V) : Type 0 where
  pub floor : d.floor ≡ f.id
  pub setup : p.setup ≡ f.setup
  pub moved : ViewLags meaning d.knows p

-- it is the same seat
abbrev pub IsSameSeat : {S V : Type 0} → SeatData S V → SeatData S V → Type 0
IsSameSeat d e = (e.floor ≡ d.floor) × (e.shard ≡ d.shard)

-- the seat of a part as it is opened, at a floor of n shards
abbrev pub seat_of : {S V : Type 0} → TableId → ℕ → PartData S V → SeatData S V
seat_of id n p = record { floor = id; shard = p.shard; knows = knows n (p ∷ []) }

-- the parts are those of all shards of the plan, in order, as they are opened for one diffusion
-- from the source
abbrev pub IsFresh : {S V : Type 0} → (S → Algebra V) → PlanData → ℕ → List (PartData S V) → Type 0
IsFresh {S} meaning plan source parts = (t : SetupData S) × (parts ≡ first_parts meaning t t.plan.shards) × (t.plan ≡ plan) × (t.diffusion.source ≡ source)

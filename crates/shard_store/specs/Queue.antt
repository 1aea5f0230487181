-- What a contract sees of a queue, and what holds of its three lists.
use Rattle.std.specs.Prelude.{⊤, ◌≡◌, ℕ, ◌+◌, ◌≤◌, ◌++◌, ◌∷◌, Bool, false, Option, Some, None, IsTrue, IfSome, List, [], length, All, Contains, Vec, vec_capacity}
use Rattle.std.specs.BinaryHeap.{IsHeap}
use Rattle.std.specs.declared.cmp.Ordering.{Ordering}
use Rattle.scholten_core.specs.declared.item.Item.{Item}
use Rattle.scholten_core.specs.declared.item.Item.TheVariants.{Message as MessageOn, Signal as SignalOn}
use Rattle.ranked_queue.specs.declared.ranked.Ranked.{Ranked}
use Rattle.shard_store.specs.declared.queue_order.QueueOrder.{QueueOrder}
use Rattle.shard_store.specs.declared.queue_order.QueueOrder.TheVariants.{Arrival, BestFirst}

-- how many items a queue may hold, and in which order they are taken
pub record Room : Type 0 where
  pub capacity : ℕ
  pub order : QueueOrder

-- the items that wait, how many of them are ranked by value (they are the first), and the room for
-- all
pub record Line (X : Type 0) : Type 0 where
  pub items : List X
  pub ranked : ℕ
  pub room : Room

abbrev pub room : ℕ → QueueOrder → Room
room n o = record { capacity = n; order = o }

abbrev pub line : {X : Type 0} → List X → ℕ → Room → Line X
line xs n r = record { items = xs; ranked = n; room = r }

-- a ranked message, as an item
abbrev pub ranked_item : {S V : Type 0} → Ranked S ℕ V → Item V
ranked_item m = MessageOn m.rank m.value

-- the item came last, and is not ranked
abbrev pub IsNewest : {X : Type 0} → Line X → X → Type 0
IsNewest {X} l i = (before : List X) × (l.items ≡ before ++ i ∷ []) × (l.ranked ≤ length before)

module _ {V : Type 0} (no_worse : V → V → Bool) where
  -- the value x on arc a is no worse than that of a message, and on no greater arc if the two are
  -- equal
  abbrev pub IsNoWorseOn : ℕ → V → Item V → Type 0
  IsNoWorseOn a x (MessageOn b y) = IsTrue (no_worse x y) × (IsTrue (no_worse y x) → a ≤ b)
  IsNoWorseOn a x (SignalOn b) = ⊥

  -- the item is a message with a value worse than the limit x
  abbrev pub IsWorseMessage : V → Item V → Type 0
  IsWorseMessage x (MessageOn b y) = no_worse y x ≡ false
  IsWorseMessage x (SignalOn b) = ⊥

  -- so is all that waits: nothing may be taken before the limit moves on
  abbrev pub IsHeldBy : V → List (Item V) → Type 0
  IsHeldBy x waiting = All (IsWorseMessage x) waiting

  -- there is a value, and it is no worse than y
  abbrev pub IsAsGood : Option V → V → Type 0
  IsAsGood None y = ⊥
  IsAsGood (Some x) y = IsTrue (no_worse x y)

  -- if the item is a message, there is a value no worse than its own
  abbrev pub IsCovered : Option V → Item V → Type 0
  IsCovered best (MessageOn b y) = IsAsGood best y
  IsCovered best (SignalOn b) = ⊤

  -- the best value of the messages that wait: one has it, and none has a better one; none if no
  -- message waits
  pub record IsBestWaiting (waiting : List (Item V)) (best : Option V) : Type 0 where
    pub waits : IfSome best (λ x. (a : ℕ) × Contains waiting (MessageOn a x))
    pub least : All (IsCovered best) waiting

  -- the item is the best of the messages that wait, and nothing else waits
  abbrev pub IsBestMessage : Item V → List (Item V) → Type 0
  IsBestMessage (MessageOn a x) rest = All (IsNoWorseOn a x) rest
  IsBestMessage (SignalOn a) rest = ⊥

-- The items taken are in the front list. First come, first served: nothing is ranked, and there is
-- room in the front and the back list for all that may wait. Best first: the front list is empty,
-- and there is room among those ranked and in the back list.
pub record IsItemQueue {X Y Z : Type 0} (cmp : Y → Y → Ordering) (order : QueueOrder) (ranked : List Y) (room : ℕ) (front : Vec X Z) (taken : ℕ) (back : Vec X Z) (capacity : ℕ) : Type 0 where
  pub taken_stood : taken ≤ length front.items
  pub waiting : length ranked + length front.items + length back.items ≤ taken + capacity
  pub front_room : order ≡ Arrival → capacity ≤ vec_capacity front
  pub ranked_room : order ≡ BestFirst → capacity ≤ room
  pub back_room : capacity ≤ vec_capacity back
  pub none_ranked : order ≡ Arrival → ranked ≡ []
  pub none_front : order ≡ BestFirst → front.items ≡ []
  pub heap : IsHeap cmp ranked

-- The items that wait in queues, outboxes and mailboxes.
use Rattle.std.specs.Prelude.{ℕ, ◌+◌, ◌<◌, List, [], length, get_or, Contains}
use Rattle.scholten_core.specs.declared.item.Item.{Item}
use Rattle.shard_part.specs.PartState.{PartData}
use Rattle.shard_store.specs.Totals.{total}
use Rattle.shard_part.specs.Weights.{part_weight}

module _ {S V : Type 0} where
  -- how many items the queues and outboxes of the parts and the mailboxes hold
  abbrev pub items_waiting : List (PartData S V) → ((ℕ → Item V → ℕ) → ℕ) → ℕ
  items_waiting parts mail = total (part_weight (λ _ _. 1)) parts + mail (λ _ _. 1)

  -- an item waits in the queue of some part
  abbrev pub QueueWaits : List (PartData S V) → Type 0
  QueueWaits parts = (p : PartData S V) × Contains parts p × (0 < length p.queue)

  -- an item waits in an outbox of some part, to some shard
  abbrev pub OutboxWaits : List (PartData S V) → Type 0
  OutboxWaits parts =
      (p : PartData S V) × Contains parts p × ((to : ℕ) × (0 < length (get_or p.outs to [])))

-- an item waits in a mailbox: they weigh more than nothing if each item weighs one
abbrev pub MailWaits : {V : Type 0} → ((ℕ → Item V → ℕ) → ℕ) → Type 0
MailWaits mail = 0 < mail (λ _ _. 1)

-- Sums over items. Weights say which items are where, and nothing of their order.
use Rattle.std.specs.Prelude.{ℕ, suc, ◌+◌, List, [], ◌∷◌}
use Rattle.scholten_core.specs.declared.item.Item.{Item}
use Rattle.scholten_core.specs.declared.item.Item.TheVariants.{Message as MessageOn, Signal as SignalOn}
use Rattle.scholten_core.specs.Network.{Network}
use Rattle.scholten_core.specs.Diffusion.{CoreState}
use Rattle.scholten_core.specs.Sums.{sum_below}
use Rattle.scholten_core.specs.Items.{item_of}
use Rattle.shard_store.specs.Totals.{total}
use Rattle.shard_part.specs.PartState.{PartData, vertex_of}

-- each entry has the property
abbrev pub All : {X : Type 0} → (X → Type 0) → List X → Type 0
All P [] = Unit {0}
All P (x ∷ xs) = P x × All P xs

-- 1 for a message
abbrev pub message_weight : {V : Type 0} → Item V → ℕ
message_weight (MessageOn a x) = 1
message_weight (SignalOn a) = 0

-- 1 for a signal
abbrev pub signal_weight : {V : Type 0} → Item V → ℕ
signal_weight (MessageOn a x) = 0
signal_weight (SignalOn a) = 1

-- the queue and the outboxes of a part
pub record Channels (V : Type 0) : Type 0 where
  pub queue : List (Item V)
  pub outs : List (List (Item V))

module _ {V : Type 0} where
  -- the outbox i is weighed by h i
  abbrev pub outs_weight : (ℕ → Item V → ℕ) → ℕ → List (List (Item V)) → ℕ
  outs_weight h k [] = 0
  outs_weight h k (o ∷ os) = total (h k) o + outs_weight h (suc k) os

  -- and the queue by h s, where s is the own shard
  abbrev pub channels_weight : ℕ → (ℕ → Item V → ℕ) → Channels V → ℕ
  channels_weight s h l = total (h s) l.queue + outs_weight h 0 l.outs

module _ {S V : Type 0} where
  -- those of the part p
  abbrev pub channels_of : PartData S V → Channels V
  channels_of p = record { queue = p.queue; outs = p.outs }

  -- all items of the part, each weighed with the shard that it is at or going to
  abbrev pub part_weight : (ℕ → Item V → ℕ) → PartData S V → ℕ
  part_weight h p = channels_weight p.shard h (channels_of p)

-- what mailboxes hold, each weighed with the shard that it leads to
abbrev pub mail_weight : {V : Type 0} → List (ℕ × List (Item V)) → (ℕ → Item V → ℕ) → ℕ
mail_weight ms h = total (λ m. total (h m.0) m.1) ms

module _ {V : Type 0} (N : Network) (place : ℕ → ℕ) where
  -- an item where it belongs
  abbrev pub at_place : (ℕ → Item V → ℕ) → Item V → ℕ
  at_place h i = h (place (vertex_of N i)) i

  -- the items under way in a state, each weighed by the shard where it belongs
  abbrev pub in_flight : CoreState V → (ℕ → Item V → ℕ) → ℕ
  in_flight c h = sum_below (λ b. total (at_place h) (item_of b (c.token b))) (suc N.arcs)

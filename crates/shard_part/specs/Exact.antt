-- What items do, counted exactly.
use Rattle.std.specs.Prelude.{◌≡◌, ℕ, ◌+◌, min, List, [], ◌∷◌, map}
use Rattle.scholten_core.specs.declared.item.Item.{Item}
use Rattle.scholten_core.specs.declared.event.Event.{Event}
use Rattle.path_algebra.specs.Algebra.{Algebra}
use Rattle.scholten_core.specs.Network.{Network}
use Rattle.scholten_core.specs.Diffusion.{CoreState, run_from}
use Rattle.scholten_core.specs.Accounts.{Totals, sent_total, delivered_total, signalled_total, accepted_total}
use Rattle.shard_store.specs.Tallies.{top}
use Rattle.shard_part.specs.PartState.{PartData, state_in, event_of}
use Rattle.shard_store.specs.Setup.{SetupData, network_of}
use Rattle.shard_store.specs.Totals.{total}
use Rattle.shard_part.specs.Weights.{message_weight, signal_weight}
use Rattle.shard_part.specs.Handling.{made, HandledAll}
use Rattle.shard_part.specs.Represents.{Represents}

abbrev pub no_totals : Totals
no_totals = record { sent = 0; delivered = 0; signalled = 0; accepted = 0 }

abbrev pub plus : Totals → Totals → Totals
plus m n = record { sent = m.sent + n.sent; delivered = m.delivered + n.delivered; signalled = m.signalled + n.signalled; accepted = m.accepted + n.accepted }

-- what events from c on send, deliver, signal and accept
abbrev pub totals_from : {V : Type 0} → Algebra V → Network → CoreState V → List Event → Totals
totals_from A N c es = record { sent = sent_total A N c es; delivered = delivered_total A N c es; signalled = signalled_total A N c es; accepted = accepted_total A N c es }

-- the part's counters show these totals, each held at the top
pub record Saturates {S V : Type 0} (n : Totals) (p : PartData S V) : Type 0 where
  pub sent : p.sent ≡ min n.sent top
  pub delivered : p.delivered ≡ min n.delivered top
  pub signalled : p.signalled ≡ min n.signalled top
  pub accepted : p.accepted ≡ min n.accepted top

module _ {S V : Type 0} (meaning : S → Algebra V) where
  -- what the part sends, delivers, signals and accepts if it takes the items
  unfoldable pub done_by : (items : List (Item V)) (p q : PartData S V) → HandledAll meaning p items q → Totals
  done_by [] p q e = no_totals
  done_by (i ∷ is) p q (m, T, rest) =
      plus (record { sent = total message_weight (made (meaning p.setup.diffusion.algebra) (network_of p.setup) i (state_in p)); delivered = message_weight i; signalled = total signal_weight (made (meaning p.setup.diffusion.algebra) (network_of p.setup) i (state_in p)); accepted = signal_weight i }) (done_by is m q rest)

  -- parts and mailboxes represent the state after the events of the items, and n is what these
  -- events do
  pub record RepresentsMoved (t : SetupData S) (c : CoreState V) (items : List (Item V)) (parts : List (PartData S V)) (mail : (ℕ → Item V → ℕ) → ℕ) (n : Totals) : Type 0 where
    pub shown : Represents meaning t parts mail (run_from (meaning t.diffusion.algebra) (network_of t) c (map event_of items))
    pub did : n ≡ totals_from (meaning t.diffusion.algebra) (network_of t) c (map event_of items)

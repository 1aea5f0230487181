-- How parts and mailboxes represent a state.
use Rattle.std.specs.Prelude.{◌≡◌, ℕ, ◌+◌, ◌<◌, ◌≤◌, List, length}
use Rattle.scholten_core.specs.declared.item.Item.{Item}
use Rattle.scholten_core.specs.declared.event.Event.{Event}
use Rattle.path_algebra.specs.Algebra.{Algebra}
use Rattle.scholten_core.specs.Network.{Network}
use Rattle.scholten_core.specs.Diffusion.{CoreState, state_after}
use Rattle.scholten_core.specs.Shares.{Agree}
use Rattle.shard_store.specs.Setup.{SetupData, network_of, place_in}
use Rattle.shard_part.specs.PartState.{PartData, state_in, mine}
use Rattle.shard_store.specs.Totals.{total, is}
use Rattle.shard_part.specs.Weights.{All, part_weight, in_flight}

module _ {S V : Type 0} (A : Algebra V) (N : Network) (place : ℕ → ℕ) where
  -- labels and engagers of the part's vertices, the labels last offered to their arcs, and the idle
  -- flags of these are those of c
  pub record HoldsTables (c : CoreState V) (p : PartData S V) : Type 0 where
    pub agree : Agree A N (mine place p.shard) c (state_in p)
    pub wide : (v : ℕ) → place v < length p.outs

  -- and its items are items of c, where they belong, none twice
  pub record HoldsShareIn (c : CoreState V) (p : PartData S V) : Type 0 where
    pub tables : HoldsTables c p
    pub weighs : (h : ℕ → Item V → ℕ) → part_weight h p ≤ in_flight N place c h

  -- parts and mailboxes represent c: `mail h` weighs what the mailboxes hold
  pub record RepresentsIn (parts : List (PartData S V)) (mail : (ℕ → Item V → ℕ) → ℕ) (c : CoreState V) : Type 0 where
    pub tables : All (HoldsTables c) parts
    pub weighs : (h : ℕ → Item V → ℕ) → total (part_weight h) parts + mail h ≡ in_flight N place c h
    pub apart : (j : ℕ) → total (λ p. is j p.shard) parts ≤ 1

-- the same by the part's own setup
module _ {S V : Type 0} (meaning : S → Algebra V) where
  -- the state that a list of events leads to
  abbrev pub core_of : SetupData S → List Event → CoreState V
  core_of t events = state_after (meaning t.diffusion.algebra) (network_of t) events

  -- the part holds its share of c
  abbrev pub HoldsShare : CoreState V → PartData S V → Type 0
  HoldsShare c p = HoldsShareIn (meaning p.setup.diffusion.algebra) (network_of p.setup) (place_in p.setup) c p

  -- the parts are all of one diffusion, and with the mailboxes they represent c
  pub record Represents (t : SetupData S) (parts : List (PartData S V)) (mail : (ℕ → Item V → ℕ) → ℕ) (c : CoreState V) : Type 0 where
    pub same : All (λ p. p.setup ≡ t) parts
    pub shown : RepresentsIn (meaning t.diffusion.algebra) (network_of t) (place_in t) parts mail c

-- What a part is seen as: the tables as a state, and where its items belong.
use Rattle.std.specs.Prelude.{◌≢◌, ℕ, Bool, true, false, eqb, Option, None, List, get_or}
use Rattle.scholten_core.specs.declared.token.Token.{Token}
use Rattle.scholten_core.specs.declared.token.Token.TheVariants.{Idle, Held}
use Rattle.scholten_core.specs.declared.item.Item.{Item}
use Rattle.scholten_core.specs.declared.item.Item.TheVariants.{Message as MessageOn, Signal as SignalOn}
use Rattle.scholten_core.specs.declared.event.Event.{Event}
use Rattle.scholten_core.specs.declared.event.Event.TheVariants.{Deliver, Accept}
use Rattle.scholten_core.specs.Network.{Network}
use Rattle.scholten_core.specs.Diffusion.{CoreState}
use Rattle.shard_store.specs.Setup.{SetupData}

-- a part: its tables by number of vertex and arc, its queue, an outbox for each shard, and what it
-- has counted
pub record PartData (S V : Type 0) : Type 0 where
  pub setup : SetupData S
  pub shard : ℕ
  pub labels : List (Option V)
  pub engagers : List (Option ℕ)
  pub busy : List Bool
  pub told : List (Option V)
  pub queue : List (Item V)
  pub outs : List (List (Item V))
  pub sent : ℕ
  pub delivered : ℕ
  pub signalled : ℕ
  pub accepted : ℕ

-- a busy arc is shown as held, whatever is on it
abbrev pub token_if : {V : Type 0} → Bool → Token V
token_if true = Held
token_if false = Idle

-- the tables read as a state; only the idle flags of its tokens mean anything
abbrev pub state_in : {S V : Type 0} → PartData S V → CoreState V
state_in p = record {
  label = λ v. get_or p.labels v None;
  engager = λ v. get_or p.engagers v None;
  token = λ b. token_if (get_or p.busy b false);
  told = λ b. get_or p.told b None;
}

-- the event that an item waits for: a message is delivered, a signal accepted
abbrev pub event_of : {V : Type 0} → Item V → Event
event_of (MessageOn a x) = Deliver a
event_of (SignalOn a) = Accept a

module _ {V : Type 0} (N : Network) where
  -- the vertex at which an item is handled
  abbrev pub vertex_of : Item V → ℕ
  vertex_of (MessageOn a x) = N.head a
  vertex_of (SignalOn a) = N.tail a

  -- the vertex at which it was made
  abbrev pub maker_of : Item V → ℕ
  maker_of (MessageOn a x) = N.tail a
  maker_of (SignalOn a) = N.head a

-- arc 0, or one of the graph's
abbrev pub IsArc : Network → ℕ → Type 0
IsArc N b = (N.head b ≢ 0) × (b ≢ 0 → N.tail b ≢ 0)

-- whether a vertex belongs to the shard s
abbrev pub mine : (ℕ → ℕ) → ℕ → ℕ → Bool
mine place s v = eqb (place v) s

-- What a running part keeps, and what it does with the items that it takes.
use Rattle.std.specs.Prelude.{◌≡◌, ◌≢◌, ◌⊎◌, ℕ, ◌+◌, Bool, Option, Some, None, IsTrue, List, [], ◌∷◌, length, map, ◌++◌, get_or, Contains}
use Rattle.scholten_core.specs.declared.item.Item.{Item}
use Rattle.scholten_core.specs.declared.item.Item.TheVariants.{Message as MessageOn, Signal as SignalOn}
use Rattle.scholten_core.specs.declared.event.Event.{Event}
use Rattle.scholten_core.specs.declared.token.Token.TheVariants.{Idle}
use Rattle.path_algebra.specs.Algebra.{Algebra}
use Rattle.scholten_core.specs.Network.{Network}
use Rattle.scholten_core.specs.Diffusion.{CoreState, count_enabled}
use Rattle.scholten_core.specs.Accounts.{sent_total, delivered_total, signalled_total, accepted_total}
use Rattle.shard_store.specs.declared.queue_order.QueueOrder.{QueueOrder}
use Rattle.shard_store.specs.declared.queue_order.QueueOrder.TheVariants.{Arrival, BestFirst}
use Rattle.shard_store.specs.Queue.{IsHeldBy}
use Rattle.shard_store.specs.Tallies.{counted_on}
use Rattle.shard_part.specs.PartState.{PartData, state_in, event_of}
use Rattle.shard_store.specs.Setup.{SetupData, network_of, place_in, IsPlanned}
use Rattle.shard_part.specs.LocalInvariant.{LocalInvariant}
use Rattle.shard_part.specs.Weights.{in_flight, part_weight}
use Rattle.shard_part.specs.Moves.{IsTallied}
use Rattle.shard_part.specs.Handling.{GoesAtOnce, HandledItem, HandledAll}
use Rattle.shard_part.specs.Represents.{HoldsShare, Represents, core_of}

-- what holds of every part: it is planned, it has the local invariant, and no counter is past its
-- top
pub record PartInvariant {S V : Type 0} (p : PartData S V) : Type 0 where
  pub planned : IsPlanned p.setup p.shard
  pub sound : LocalInvariant (network_of p.setup) (place_in p.setup) p
  pub tallied : IsTallied p

-- an idle arc out of a vertex of the part was last offered the vertex's label
abbrev pub OwnIdleIsTold : {S V : Type 0} → PartData S V → Type 0
OwnIdleIsTold p = (b : ℕ) → place_in p.setup ((network_of p.setup).tail b) ≡ p.shard → (network_of p.setup).tail b ≢ 0 →
    (state_in p).token b ≡ Idle → (state_in p).told b ≡ (state_in p).label ((network_of p.setup).tail b)

-- there is a limit, and all that waits at the part is messages worse than it
abbrev pub IsHeldBack : {S V : Type 0} → (V → V → Bool) → Option V → PartData S V → Type 0
IsHeldBack no_worse None p = ⊥
IsHeldBack no_worse (Some x) p = IsHeldBy no_worse x p.queue

-- a message of this value waits at the part for a shard
abbrev pub IsOutgoingTo : {S V : Type 0} → ℕ → V → PartData S V → Type 0
IsOutgoingTo to x p = (a : ℕ) × Contains (get_or p.outs to []) (MessageOn a x)

-- one waits there for another shard
abbrev pub IsOutgoing : {S V : Type 0} → V → PartData S V → Type 0
IsOutgoing x p = (to : ℕ) × (to ≢ p.shard) × IsOutgoingTo to x p

-- a message waits for another shard, and all that waits to be handled is messages worse than that
-- one after one more arc of the weight w
abbrev pub IsAheadOfSent : {S V : Type 0} → Algebra V → ℕ → PartData S V → Type 0
IsAheadOfSent {S} {V} A w p = (x y : V) × IsOutgoing x p × (A.extend x w ≡ Some y) × IsHeldBy A.no_worse y p.queue

-- there is a weight, and the part is ahead of what it has sent by more than that
abbrev pub RunsAhead : {S V : Type 0} → Algebra V → Option ℕ → PartData S V → Type 0
RunsAhead A None p = ⊥
RunsAhead A (Some w) p = IsAheadOfSent A w p

module _ {V : Type 0} (A : Algebra V) (N : Network) where
  -- the item is a message with a value no worse than x
  abbrev pub IsNoWorseMessage : V → Item V → Type 0
  IsNoWorseMessage x (MessageOn a y) = IsTrue (A.no_worse y x)
  IsNoWorseMessage x (SignalOn a) = ⊥

  -- the item may be taken, best first, under a limit, if there is one: it goes at once, or it is a
  -- message no worse than the limit
  abbrev pub IsWithin : QueueOrder → Option V → CoreState V → Item V → Type 0
  IsWithin Arrival limit d i = Unit {0}
  IsWithin BestFirst None d i = Unit {0}
  IsWithin BestFirst (Some x) d i = GoesAtOnce A N d i ⊎ IsNoWorseMessage x i

module _ {S V : Type 0} (meaning : S → Algebra V) where
  -- some item was taken from the front
  abbrev pub HandledNext : PartData S V → PartData S V → Type 0
  HandledNext p q = (i : Item V) × HandledItem meaning p i q

  -- n items were taken, one after the other
  abbrev pub HandledMany : PartData S V → ℕ → PartData S V → Type 0
  HandledMany p n q = (items : List (Item V)) × (length items ≡ n) × HandledAll meaning p items q

  -- these items were taken, one after the other, each of them within the limit
  abbrev pub HandledAllWithin : Option V → PartData S V → List (Item V) → PartData S V → Type 0
  HandledAllWithin limit p [] q = p ≡ q
  HandledAllWithin limit p (i ∷ is) q = (m : PartData S V) × HandledItem meaning p i m
      × IsWithin (meaning p.setup.diffusion.algebra) (network_of p.setup) p.setup.order limit (state_in p) i × HandledAllWithin limit m is q

  -- n items were
  abbrev pub HandledWithin : Option V → PartData S V → ℕ → PartData S V → Type 0
  HandledWithin limit p n q = (items : List (Item V)) × (length items ≡ n) × HandledAllWithin limit p items q

  -- n items were taken, and they are n events after the given ones, each enabled in its turn: the
  -- part holds its share of the state after all of them, its queue and outboxes have gained and
  -- lost what that state has gained and lost, and it has counted what the events sent, delivered,
  -- signalled and accepted
  pub record IsRunOn (events : List Event) (p : PartData S V) (n : ℕ) (q : PartData S V) : Type 0 where
    pub items : List (Item V)
    pub count : length items ≡ n
    pub handled : HandledAll meaning p items q
    pub enabled : count_enabled (meaning p.setup.diffusion.algebra) (network_of p.setup) (core_of meaning p.setup events) (map event_of items) ≡ n
    pub holds : HoldsShare meaning (core_of meaning p.setup (events ++ map event_of items)) q
    pub weighs : (h : ℕ → Item V → ℕ) → part_weight h q + in_flight (network_of p.setup) (place_in p.setup) (core_of meaning p.setup events) h
        ≡ part_weight h p + in_flight (network_of p.setup) (place_in p.setup) (core_of meaning p.setup (events ++ map event_of items)) h
    pub sent : q.sent ≡ counted_on (sent_total (meaning p.setup.diffusion.algebra) (network_of p.setup) (core_of meaning p.setup events) (map event_of items)) p.sent
    pub delivered : q.delivered ≡ counted_on (delivered_total (meaning p.setup.diffusion.algebra) (network_of p.setup) (core_of meaning p.setup events) (map event_of items)) p.delivered
    pub signalled : q.signalled ≡ counted_on (signalled_total (meaning p.setup.diffusion.algebra) (network_of p.setup) (core_of meaning p.setup events) (map event_of items)) p.signalled
    pub accepted : q.accepted ≡ counted_on (accepted_total (meaning p.setup.diffusion.algebra) (network_of p.setup) (core_of meaning p.setup events) (map event_of items)) p.accepted

  -- whatever events led to the state of which the part held its share, n items were taken that are
  -- n events after these
  abbrev pub RunsOn : PartData S V → ℕ → PartData S V → Type 0
  RunsOn p n q = (events : List Event) → HoldsShare meaning (core_of meaning p.setup events) p → IsRunOn events p n q

  -- after these events and n more, each enabled in its turn, parts and mailboxes represent the
  -- state
  pub record IsShownOn (t : SetupData S) (events : List Event) (parts : List (PartData S V)) (mail : (ℕ → Item V → ℕ) → ℕ) (n : ℕ) : Type 0 where
    pub more : List Event
    pub count : length more ≡ n
    pub enabled : count_enabled (meaning t.diffusion.algebra) (network_of t) (core_of meaning t events) more ≡ n
    pub shown : Represents meaning t parts mail (core_of meaning t (events ++ more))

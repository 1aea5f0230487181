-- Messages that improve nothing, repaid as they are made: each is sent and delivered, its signal
-- made and accepted, before the next item is taken.
use Rattle.std.specs.Prelude.{◌≡◌, ◌≢◌, ◌⊎◌, ℕ, zero, suc, ◌≤◌, Bool, true, false, Some, None, List, [], ◌∷◌, ◌++◌, length, map, set}
use Rattle.std.specs.List.Sorted.{IsPermutation}
use Rattle.path_algebra.specs.Algebra.{Algebra}
use Rattle.scholten_core.specs.declared.item.Item.{Item}
use Rattle.scholten_core.specs.declared.item.Item.TheVariants.{Message as MessageOn, Signal as SignalOn}
use Rattle.scholten_core.specs.declared.token.Token.TheVariants.{Idle}
use Rattle.scholten_core.specs.Network.{Network}
use Rattle.scholten_core.specs.Diffusion.{CoreState, improves, is_due, extend_label}
use Rattle.scholten_core.specs.Deficit.{deficit}
use Rattle.shard_store.specs.Setup.{network_of, place_in}
use Rattle.shard_store.specs.Tallies.{counted_on, top}
use Rattle.shard_part.specs.PartState.{PartData, state_in}
use Rattle.shard_part.specs.Handling.{GoesAtOnce, HandledItem}
use Rattle.shard_part.specs.Moves.{offered, rested, valued, with_taken}
use Rattle.shard_part.specs.Part.{HandledNext}

module _ {V : Type 0} where
  -- pairs of an arc and a value, as messages
  abbrev pub as_items : List (ℕ × V) → List (Item V)
  as_items ms = map (λ m. MessageOn m.0 m.1) ms

  -- with their arcs busy
  abbrev pub all_busy : List (ℕ × V) → List Bool → List Bool
  all_busy [] busy = busy
  all_busy (m ∷ ms) busy = set (all_busy ms busy) m.0 true

  -- the arc b is none of theirs
  abbrev pub IsOff : ℕ → List (ℕ × V) → Type 0
  IsOff b [] = Unit {0}
  IsOff b (m ∷ ms) = (b ≢ m.0) × IsOff b ms

  -- w answers at once what improves nothing, and is as it was then: it is neutral, and no arc out of
  -- it is busy, or it is engaged, and one is
  abbrev pub AnswersAtOnce : Network → CoreState V → ℕ → Type 0
  AnswersAtOnce N d w = ((d.engager w ≡ None) × (deficit N w d ≡ 0)) ⊎ (((e : ℕ) × (d.engager w ≡ Some e)) × (deficit N w d ≢ 0))

module _ {V : Type 0} (A : Algebra V) (N : Network) (place : ℕ → ℕ) (s : ℕ) where
  -- v offered its label on an idle arc to another vertex of the shard s, and the message of this
  -- value changes nothing there
  pub record IsVoid (d : CoreState V) (v b : ℕ) (x : V) : Type 0 where
    pub tail : N.tail b ≡ v
    pub other : N.head b ≢ v
    pub here : place (N.head b) ≡ s
    pub idle : d.token b ≡ Idle
    pub told : d.told b ≡ d.label v
    pub nothing : improves A x (d.label (N.head b)) ≡ false
    pub at_once : AnswersAtOnce N d (N.head b)

  -- the same for each of these, all on different arcs
  abbrev pub AreVoid : CoreState V → ℕ → List (ℕ × V) → Type 0
  AreVoid d v [] = Unit {0}
  AreVoid d v (m ∷ ms) = IsVoid d v m.0 m.1 × IsOff m.0 ms × AreVoid d v ms

-- a counter after k more
abbrev pub more : ℕ → ℕ → ℕ
more zero n = n
more (suc k) n = counted_on (suc k) n

module _ {S V : Type 0} where
  -- the tables have a place for each vertex and each arc, and no counter is past its top
  pub record IsFit (p : PartData S V) : Type 0 where
    pub labels : length p.labels ≡ suc p.setup.diffusion.roads.vertices
    pub engagers : length p.engagers ≡ suc p.setup.diffusion.roads.vertices
    pub busy : length p.busy ≡ suc (length p.setup.diffusion.roads.arcs)
    pub told : length p.told ≡ suc (length p.setup.diffusion.roads.arcs)
    pub sent : p.sent ≤ top
    pub delivered : p.delivered ≤ top
    pub signalled : p.signalled ≤ top
    pub accepted : p.accepted ≤ top

  -- n messages were sent and repaid
  abbrev pub repaid : ℕ → PartData S V → PartData S V
  repaid n p = record p { sent = more n p.sent; delivered = more n p.delivered; signalled = more n p.signalled; accepted = more n p.accepted }

module _ {S V : Type 0} (A : Algebra V) where
  -- if v offered its label on b now, the message would change nothing at another vertex of the part
  pub record IsVoidOffer (p : PartData S V) (v b : ℕ) : Type 0 where
    pub value : V
    pub extended : extend_label A ((state_in p).label v) ((network_of p.setup).weight b) ≡ Some value
    pub here : place_in p.setup ((network_of p.setup).head b) ≡ p.shard
    pub other : (network_of p.setup).head b ≢ v
    pub nothing : improves A value ((state_in p).label ((network_of p.setup).head b)) ≡ false
    pub at_once : AnswersAtOnce (network_of p.setup) (state_in p) ((network_of p.setup).head b)

  -- b was offered the label of v if that was due, or the offer was void and only noted
  abbrev pub OfferedOrNoted : ℕ → ℕ → Bool → PartData S V → PartData S V → Type 0
  OfferedOrNoted v b false p q = q ≡ offered A v b p
  OfferedOrNoted v b true p q = (is_due A (network_of p.setup) v (state_in p) b ≡ true) × IsVoidOffer p v b × (q ≡ record p { told = set p.told b ((state_in p).label v) })

  -- u has made all its offers; q is the same, but that these messages are repaid, though not yet
  -- counted
  pub record Owes (v : ℕ) (ms : List (ℕ × V)) (u q : PartData S V) : Type 0 where
    pub void : AreVoid A (network_of q.setup) (place_in q.setup) q.shard (state_in q) v ms
    pub items : IsPermutation u.queue (as_items ms ++ q.queue)
    pub none : ms ≡ [] → u.queue ≡ q.queue
    pub fit : IsFit q
    pub rest : u ≡ record q { busy = all_busy ms q.busy; queue = u.queue; sent = more (length ms) q.sent }

  -- and of n such messages
  abbrev pub OwesMany : ℕ → ℕ → PartData S V → PartData S V → Type 0
  OwesMany v n u q = (ms : List (ℕ × V)) × (length ms ≡ n) × Owes v ms u q

  -- q is u at rest, with n messages repaid
  abbrev pub RestsRepaid : ℕ → ℕ → PartData S V → PartData S V → Type 0
  RestsRepaid v n u q = (m : PartData S V) × OwesMany v n u m × (q ≡ rested A v (repaid n m))

  -- the item did what it does, and n messages were repaid
  abbrev pub TakenRepaid : Item V → ℕ → PartData S V → PartData S V → Type 0
  TakenRepaid (MessageOn a x) n p q = RestsRepaid ((network_of p.setup).head a) n (valued A a x ((network_of p.setup).head a) (record p { delivered = counted_on 1 p.delivered })) q
  TakenRepaid (SignalOn a) n p q = (n ≡ 0) × (q ≡ with_taken A (SignalOn a) p)

module _ {S V : Type 0} (meaning : S → Algebra V) where
  -- these items were taken, one after the other, each of which goes at once
  abbrev pub HandledAtOnce : PartData S V → List (Item V) → PartData S V → Type 0
  HandledAtOnce p [] q = p ≡ q
  HandledAtOnce p (i ∷ is) q = (m : PartData S V) × HandledItem meaning p i m × GoesAtOnce (meaning p.setup.diffusion.algebra) (network_of p.setup) (state_in p) i × HandledAtOnce m is q

  -- n items were taken: one in its turn, then some that go at once
  abbrev pub HandledRun : PartData S V → ℕ → PartData S V → Type 0
  HandledRun p n q = (m : PartData S V) × HandledNext meaning p m × ((is : List (Item V)) × (suc (length is) ≡ n) × HandledAtOnce m is q)

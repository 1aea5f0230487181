-- What a part does with the items that it takes.
use Rattle.std.specs.Prelude.{◌≡◌, ◌⊎◌, ℕ, zero, suc, Bool, true, false, cond, eqb, Option, Some, None, List, [], ◌∷◌, ◌++◌, set, get_or}
use Rattle.std.specs.List.Sorted.{IsPermutation}
use Rattle.shard_store.specs.declared.queue_order.QueueOrder.{QueueOrder}
use Rattle.shard_store.specs.Queue.{IsBestMessage}
use Rattle.shard_store.specs.declared.queue_order.QueueOrder.TheVariants.{Arrival, BestFirst}
use Rattle.scholten_core.specs.declared.item.Item.{Item}
use Rattle.scholten_core.specs.declared.item.Item.TheVariants.{Message as MessageOn, Signal as SignalOn}
use Rattle.path_algebra.specs.Algebra.{Algebra}
use Rattle.scholten_core.specs.Network.{Network}
use Rattle.scholten_core.specs.Diffusion.{CoreState, put, freed, improves, pump, out_idle, better_of, engaged_by, answer_to}
use Rattle.scholten_core.specs.Items.{item_of, settle_made}
use Rattle.scholten_core.specs.Shares.{Agree}
use Rattle.shard_store.specs.Tallies.{counted_on}
use Rattle.shard_store.specs.Setup.{network_of, place_in}
use Rattle.shard_part.specs.PartState.{PartData, state_in, vertex_of, mine}
use Rattle.shard_store.specs.Totals.{total}
use Rattle.shard_part.specs.Weights.{message_weight, signal_weight, Channels, channels_of}
use Rattle.shard_store.specs.Outgoing.{outgoing}

module _ {V : Type 0} (A : Algebra V) (N : Network) where
  -- A part knows the idle flags of its own outgoing arcs alone, and no token: an arc with an item
  -- on it, and an arc that engages, is busy already.
  abbrev pub arrive_here : ℕ → V → CoreState V → CoreState V
  arrive_here a x d = record {
    label = put d.label (N.head a) (better_of A x (d.label (N.head a)));
    engager = put d.engager (N.head a) (engaged_by (d.engager (N.head a)) a);
    token = d.token;
    told = d.told;
  }

  -- v becomes neutral if the test holds
  abbrev pub rest_here : ℕ → CoreState V → Option ℕ → Bool → CoreState V
  rest_here v d None t = d
  rest_here v d (Some e) false = d
  rest_here v d (Some e) true = record { label = d.label; engager = put d.engager v None; token = d.token; told = d.told }

  -- each due arc out of v is offered its label, and v becomes neutral if none is busy
  abbrev pub settle_here : ℕ → CoreState V → CoreState V
  settle_here v d = rest_here v (pump A N v d) (d.engager v) (out_idle A N v (pump A N v d))

  -- the same after a signal; one on arc 0 ends the diffusion, and nothing follows
  abbrev pub settle_tail_here : ℕ → ℕ → CoreState V → CoreState V
  settle_tail_here zero v d = d
  settle_tail_here (suc a) v d = settle_here v d

  -- what the tables become if an item is taken
  abbrev pub taken : Item V → CoreState V → CoreState V
  taken (MessageOn a x) d = settle_here (N.head a) (arrive_here a x d)
  taken (SignalOn a) d = settle_tail_here a (N.tail a) (freed A N a d)

  -- the items that the tail of a signal's arc makes
  abbrev pub back_made : ℕ → ℕ → CoreState V → List (Item V)
  back_made zero v d = []
  back_made (suc a) v d = settle_made A N v d (outgoing N v)

  -- the items that an item makes when it is taken, in order
  abbrev pub made : Item V → CoreState V → List (Item V)
  made (MessageOn a x) d = item_of a (answer_to (d.engager (N.head a))) ++ settle_made A N (N.head a) (arrive_here a x d) (outgoing N (N.head a))
  made (SignalOn a) d = back_made a (N.tail a) (freed A N a d)

module _ {V : Type 0} (N : Network) (place : ℕ → ℕ) where
  -- an item for the shard s itself goes to the back of the queue, another to the back of that
  -- outbox
  abbrev pub route : ℕ → Item V → Channels V → Channels V
  route s i l = cond (eqb (place (vertex_of N i)) s)
      (record { queue = l.queue ++ i ∷ []; outs = l.outs })
      (record { queue = l.queue; outs = set l.outs (place (vertex_of N i)) (get_or l.outs (place (vertex_of N i)) [] ++ i ∷ []) })

  -- items one after the other
  abbrev pub routes : ℕ → List (Item V) → Channels V → Channels V
  routes s [] l = l
  routes s (i ∷ is) l = routes s is (route s i l)

module _ {V : Type 0} (A : Algebra V) (N : Network) where
  -- a signal, or a message that improves nothing
  abbrev pub GoesAtOnce : CoreState V → Item V → Type 0
  GoesAtOnce d (MessageOn a x) = improves A x (d.label (N.head a)) ≡ false
  GoesAtOnce d (SignalOn a) = Unit {0}

  -- of the items that wait it is the turn of i, and the rest goes on waiting: i came first, or it
  -- is the best message unless it goes at once
  abbrev pub IsInTurn : QueueOrder → CoreState V → List (Item V) → Item V → List (Item V) → Type 0
  IsInTurn Arrival d waiting i rest = waiting ≡ i ∷ rest
  IsInTurn BestFirst d waiting i rest = GoesAtOnce d i ⊎ IsBestMessage A.no_worse i rest

module _ {S V : Type 0} (A : Algebra V) (N : Network) (place : ℕ → ℕ) where
  -- a part takes the item i from its queue
  pub record HandledItemIn (p : PartData S V) (i : Item V) (q : PartData S V) : Type 0 where
    pub rest : List (Item V)
    pub left : IsPermutation p.queue (i ∷ rest)
    pub in_turn : IsInTurn A N p.setup.order (state_in p) p.queue i rest
    pub setup : q.setup ≡ p.setup
    pub shard : q.shard ≡ p.shard
    pub tables : Agree A N (mine place p.shard) (taken A N i (state_in p)) (state_in q)
    pub channels : channels_of q ≡ routes N place p.shard (made A N i (state_in p)) (record { queue = rest; outs = p.outs })
    pub sent : q.sent ≡ counted_on (total message_weight (made A N i (state_in p))) p.sent
    pub signalled : q.signalled ≡ counted_on (total signal_weight (made A N i (state_in p))) p.signalled
    pub delivered : q.delivered ≡ counted_on (message_weight i) p.delivered
    pub accepted : q.accepted ≡ counted_on (signal_weight i) p.accepted

-- the same by the part's own setup
module _ {S V : Type 0} (meaning : S → Algebra V) where
  -- the part p takes the item i and becomes q
  abbrev pub HandledItem : PartData S V → Item V → PartData S V → Type 0
  HandledItem p i q = HandledItemIn (meaning p.setup.diffusion.algebra) (network_of p.setup) (place_in p.setup) p i q

  -- a list of items, one after the other
  abbrev pub HandledAll : PartData S V → List (Item V) → PartData S V → Type 0
  HandledAll p [] q = p ≡ q
  HandledAll p (i ∷ is) q = (m : PartData S V) × HandledItem p i m × HandledAll m is q

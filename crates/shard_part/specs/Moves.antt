-- The moves of a part, and what its tables and rings keep at each of them.
use Rattle.std.specs.Prelude.{◌≡◌, ◌≢◌, ℕ, zero, suc, ◌<◌, ◌≤◌, Bool, true, false, cond, Option, Some, None, List, [], ◌∷◌, length, set, get_or, take}
use Rattle.std.specs.List.Sorted.{IsPermutation}
use Rattle.scholten_core.specs.declared.item.Item.{Item}
use Rattle.scholten_core.specs.declared.item.Item.TheVariants.{Message as MessageOn, Signal as SignalOn}
use Rattle.path_algebra.specs.Algebra.{Algebra}
use Rattle.scholten_core.specs.Diffusion.{improves, is_due, extend_label, out_idle}
use Rattle.scholten_core.specs.Items.{item_arc}
use Rattle.shard_store.specs.Tallies.{counted_on, top}
use Rattle.shard_store.specs.Tables.{scatter}
use Rattle.scholten_core.specs.Network.{Network}
use Rattle.scholten_core.specs.Deficit.{busy_out}
use Rattle.shard_part.specs.PartState.{PartData, state_in, IsArc, vertex_of, maker_of}
use Rattle.shard_store.specs.Setup.{SetupData, network_of, place_in, IsPlanned}
use Rattle.shard_part.specs.Weights.{channels_of}
use Rattle.shard_store.specs.Queue.{Room}
use Rattle.shard_store.specs.Rows.{Rows}
use Rattle.shard_store.specs.Outgoing.{local_vertices, arcs_out, outgoing}
use Rattle.shard_part.specs.Handling.{route, IsInTurn}
use Rattle.shard_part.specs.LocalInvariant.{LocalInvariant, IsClear}
use Rattle.shard_store.specs.Capacities.{queue_bound, outbox_bound}

-- the part that the tables and rings of a shard are seen as: each value is at the number that it
-- belongs to
abbrev pub abstraction : {S V : Type 0} → SetupData S → ℕ → Rows V → List (Item V) → List (List (Item V)) → ℕ → ℕ → ℕ → ℕ → PartData S V
abstraction t s r queue outs sent delivered signalled accepted = record {
  setup = t;
  shard = s;
  labels = scatter (local_vertices t s) r.labels None (suc t.diffusion.roads.vertices);
  engagers = scatter (local_vertices t s) r.engagers None (suc t.diffusion.roads.vertices);
  busy = scatter (arcs_out (network_of t) (local_vertices t s)) r.busy false (suc (length t.diffusion.roads.arcs));
  told = scatter (arcs_out (network_of t) (local_vertices t s)) r.told None (suc (length t.diffusion.roads.arcs));
  queue = queue;
  outs = outs;
  sent = sent;
  delivered = delivered;
  signalled = signalled;
  accepted = accepted;
}

-- the tables have a row for each vertex of the shard, and one for each arc out of these
pub record AreRowsSized {S V : Type 0} (p : PartData S V) (r : Rows V) : Type 0 where
  pub own : r.own ≡ local_vertices p.setup p.shard
  pub offsets : length r.offsets ≡ length (local_vertices p.setup p.shard)
  pub starts : (j : ℕ) → j < length (local_vertices p.setup p.shard) → get_or r.offsets j 0 ≡ length (arcs_out (network_of p.setup) (take j (local_vertices p.setup p.shard)))
  pub labels : length r.labels ≡ length (local_vertices p.setup p.shard)
  pub engagers : length r.engagers ≡ length (local_vertices p.setup p.shard)
  pub deficits : length r.deficits ≡ length (local_vertices p.setup p.shard)
  pub busy : length r.busy ≡ length (arcs_out (network_of p.setup) (local_vertices p.setup p.shard))
  pub told : length r.told ≡ length (arcs_out (network_of p.setup) (local_vertices p.setup p.shard))

-- the part is seen as these rows
pub record IsSeen {S V : Type 0} (p : PartData S V) (r : Rows V) : Type 0 where
  pub labels : p.labels ≡ scatter (local_vertices p.setup p.shard) r.labels None (suc p.setup.diffusion.roads.vertices)
  pub engagers : p.engagers ≡ scatter (local_vertices p.setup p.shard) r.engagers None (suc p.setup.diffusion.roads.vertices)
  pub busy : p.busy ≡ scatter (arcs_out (network_of p.setup) (local_vertices p.setup p.shard)) r.busy false (suc (length p.setup.diffusion.roads.arcs))
  pub told : p.told ≡ scatter (arcs_out (network_of p.setup) (local_vertices p.setup p.shard)) r.told None (suc (length p.setup.diffusion.roads.arcs))

-- the queue is in the order of the setup and has a place for every arc with an end in the shard,
-- each outbox one for every arc between the two shards
pub record IsRoomy {S V : Type 0} (p : PartData S V) (queue_room : Room) (out_capacities : List ℕ) : Type 0 where
  pub order : queue_room.order ≡ p.setup.order
  pub queue : queue_room.capacity ≡ queue_bound (network_of p.setup) (place_in p.setup) p.shard
  pub boxes : length p.outs ≡ p.setup.plan.shards
  pub rings : length out_capacities ≡ p.setup.plan.shards
  pub outs : (t : ℕ) → t ≢ p.shard → t < p.setup.plan.shards → get_or out_capacities t 0 ≡ outbox_bound (network_of p.setup) (place_in p.setup) p.shard t

-- the deficit of a vertex is the number of busy arcs out of it
abbrev pub AreRowDeficits : {S V : Type 0} → PartData S V → Rows V → Type 0
AreRowDeficits p r = (j : ℕ) → j < length (local_vertices p.setup p.shard) →
    get_or r.deficits j 0 ≡ busy_out (network_of p.setup) (get_or (local_vertices p.setup p.shard) j 0) (state_in p) (suc (length p.setup.diffusion.roads.arcs))

-- no counter is past its top
abbrev pub IsTallied : {S V : Type 0} → PartData S V → Type 0
IsTallied p = (p.sent ≤ top) × (p.delivered ≤ top) × (p.signalled ≤ top) × (p.accepted ≤ top)

pub record RepInvariant {S V : Type 0} (p : PartData S V) (r : Rows V) (queue_room : Room) (out_capacities : List ℕ) : Type 0 where
  pub planned : IsPlanned p.setup p.shard
  pub sized : AreRowsSized p r
  pub seen : IsSeen p r
  pub counts : AreRowDeficits p r
  pub sound : LocalInvariant (network_of p.setup) (place_in p.setup) p
  pub roomy : IsRoomy p queue_room out_capacities
  pub tallied : IsTallied p

-- the vertex v is the part's, at the place j
pub record IsPlace {S V : Type 0} (p : PartData S V) (v j : ℕ) : Type 0 where
  pub inside : j < length (local_vertices p.setup p.shard)
  pub vertex : get_or (local_vertices p.setup p.shard) j 0 ≡ v

-- the arc b leaves a vertex of the part, and its flags are at the place i
pub record IsArcRow {S V : Type 0} (p : PartData S V) (b i : ℕ) : Type 0 where
  pub inside : i < length (arcs_out (network_of p.setup) (local_vertices p.setup p.shard))
  pub arc : get_or (arcs_out (network_of p.setup) (local_vertices p.setup p.shard)) i 0 ≡ b

-- and it leaves the vertex v
pub record IsArcOut {S V : Type 0} (p : PartData S V) (v b i : ℕ) : Type 0 where
  pub row : IsArcRow p b i
  pub tail : (network_of p.setup).tail b ≡ v
  pub arc : IsArc (network_of p.setup) b

-- the item may be sent to a shard: it belongs there and is made here, and no other is on its arc
pub record MaySend {S V : Type 0} (p : PartData S V) (i : Item V) (to : ℕ) : Type 0 where
  pub arc : IsArc (network_of p.setup) (item_arc i)
  pub made : place_in p.setup (maker_of (network_of p.setup) i) ≡ p.shard
  pub shard : to ≡ place_in p.setup (vertex_of (network_of p.setup) i)
  pub clear : IsClear p (item_arc i)

-- The item is a signal, or a message that improves nothing at the place of its head.
abbrev pub IsSettledIn : {V : Type 0} → Algebra V → Network → List ℕ → List (Option V) → Item V → Type 0
IsSettledIn A N own labels (MessageOn a x) = (j : ℕ) × (j < length own) × (get_or own j 0 ≡ N.head a) × (improves A x (get_or labels j None) ≡ false)
IsSettledIn A N own labels (SignalOn a) = Unit {0}

-- the item i was taken from the queue, in its turn
pub record IsPopped {S V : Type 0} (A : Algebra V) (old new : PartData S V) (i : Item V) : Type 0 where
  pub left : IsPermutation old.queue (i ∷ new.queue)
  pub in_turn : IsInTurn A (network_of old.setup) old.setup.order (state_in old) old.queue i new.queue
  pub same : new ≡ record old { queue = new.queue }
  pub arc : IsArc (network_of new.setup) (item_arc i)
  pub here : place_in new.setup (vertex_of (network_of new.setup) i) ≡ new.shard
  pub clear : IsClear new (item_arc i)

module _ {S V : Type 0} where
  -- an item is put where it belongs
  abbrev pub put_item : Item V → PartData S V → PartData S V
  put_item i p = record p {
    queue = (route (network_of p.setup) (place_in p.setup) p.shard i (channels_of p)).queue;
    outs = (route (network_of p.setup) (place_in p.setup) p.shard i (channels_of p)).outs;
  }

  -- and counted
  abbrev pub counted_made : Item V → PartData S V → PartData S V
  counted_made (MessageOn b y) p = record p { sent = counted_on 1 p.sent }
  counted_made (SignalOn b) p = record p { signalled = counted_on 1 p.signalled }

  -- an item is made
  abbrev pub with_item : Item V → PartData S V → PartData S V
  with_item i p = counted_made i (put_item i p)

  -- a message along b, if the extension is not refused
  abbrev pub with_message : ℕ → Option V → PartData S V → PartData S V
  with_message b None p = p
  with_message b (Some y) p = with_item (MessageOn b y) (record p { busy = set p.busy b true })

  -- a message on arc a finds v: a neutral vertex is engaged, any other answers
  abbrev pub engaged_or_answered : ℕ → ℕ → Option ℕ → PartData S V → PartData S V
  engaged_or_answered a v None p = record p { engagers = set p.engagers v (Some a) }
  engaged_or_answered a v (Some e) p = with_item (SignalOn a) p

  -- v becomes neutral if the test holds, and a signal goes back on its engager
  abbrev pub rested_by : ℕ → Option ℕ → Bool → PartData S V → PartData S V
  rested_by v None t p = p
  rested_by v (Some e) false p = p
  rested_by v (Some e) true p = with_item (SignalOn e) (record p { engagers = set p.engagers v None })

module _ {S V : Type 0} (A : Algebra V) where
  abbrev pub labelled : V → ℕ → PartData S V → PartData S V
  labelled x v p = cond (improves A x ((state_in p).label v)) (record p { labels = set p.labels v (Some x) }) p

  -- the arc b out of v is offered the label of v, if it is due
  abbrev pub offered : ℕ → ℕ → PartData S V → PartData S V
  offered v b p = cond (is_due A (network_of p.setup) v (state_in p) b)
      (with_message b (extend_label A ((state_in p).label v) ((network_of p.setup).weight b)) (record p { told = set p.told b ((state_in p).label v) })) p

  unfoldable pub offered_all : ℕ → List ℕ → PartData S V → PartData S V
  offered_all v [] p = p
  offered_all v (b ∷ bs) p = offered_all v bs (offered v b p)

  abbrev pub rested : ℕ → PartData S V → PartData S V
  rested v p = rested_by v ((state_in p).engager v) (out_idle A (network_of p.setup) v (state_in p)) p

  -- what a message does before its head rests: the label, the engager or the answer, then the arcs
  -- if the label improved
  abbrev pub valued : ℕ → V → ℕ → PartData S V → PartData S V
  valued a x v p = cond (improves A x ((state_in p).label v))
      (offered_all v (outgoing (network_of p.setup) v) (engaged_or_answered a v ((state_in p).engager v) (labelled x v p)))
      (engaged_or_answered a v ((state_in p).engager v) (labelled x v p))

  abbrev pub with_value : ℕ → V → ℕ → PartData S V → PartData S V
  with_value a x v p = rested v (valued a x v p)

  abbrev pub with_free : ℕ → ℕ → PartData S V → PartData S V
  with_free zero v p = record p { busy = set p.busy zero false }
  with_free (suc a) v p = rested v (offered v (suc a) (record p { busy = set p.busy (suc a) false }))

  -- what an item does that was taken from the queue
  abbrev pub with_taken : Item V → PartData S V → PartData S V
  with_taken (MessageOn a x) p = with_value a x ((network_of p.setup).head a) (record p { delivered = counted_on 1 p.delivered })
  with_taken (SignalOn a) p = with_free a ((network_of p.setup).tail a) (record p { accepted = counted_on 1 p.accepted })

-- What a call knows of its seat, and that the seat is one again after its step.
use Rattle.std.proofs.Common.{Option, ◌≡◌, ℕ, zero, suc, ◌+◌, ◌*◌, ◌<◌, ◌≤◌, Bool, cond, List, [], ◌∷◌, length, get_or, set, take, drop, refl, sym, ap, ◌∙◌, subst, inl, inr, arith, eq-eqb, ne_eqb, length-set, get_or-set_other}
use Rattle.post_floor.proofs.Words.{cases_eq, TableId, rest, Buffer, buffer, Algebra, PartData, SetupData, total, is, handled_same, is_self, View, mailbox, next_slot, dest, origin, IsBetween, Slot, empty_slot, fill_claims, read_claims, without, IsNextFill, IsNextRead, StepsTo, at_word, end_fill, end_read, ViewLags, Unclaimed}
use Rattle.std.proofs.lemmas.List.{take_all, same_from_push, get_or_read}
use Rattle.post_floor.specs.Data.{FloorData, SeatData, AreSlots, HasEnd, AreOpen, AtTable, IsAt, IsSeat, IsTableSized, fill_box, read_box}
use Rattle.post_floor.proofs.Totals.{is_else, without_same, without_else}
use Rattle.post_floor.proofs.Claiming.{few_claims, claims_more, claims_less}

-- a next slot that is moved on is a slot
slots_next : (n : ℕ) (next : List ℕ) (j x : ℕ) → AreSlots n next → x ≡ get_or next j 0 → AreSlots n (set next j (next_slot x))
slots_next n next j x h is_x = record {
  long = length-set next j (next_slot x) ∙ h.long;
  low = λ i. elim (cases_eq i j) [
    | inl e ↦ subst (λ z. get_or (set next j (next_slot x)) z 0 < 4) (sym e) (here next j (next_slot x) (small x (subst (λ z. z < 4) (sym is_x) (h.low j))))
    | inr ne ↦ subst (λ z. z < 4) (sym (get_or-set_other next j i (next_slot x) 0 ne)) (h.low i)
  ];
}
  where
    small : (n : ℕ) → n < 4 → next_slot n < 4
    small n l = elim (cases_eq (n + 1) 4) [
      | inl e ↦ subst (λ (b : Bool). cond b 0 (n + 1) < 4) (sym (eq-eqb (n + 1) 4 e)) (omega arith)
      | inr ne ↦ subst (λ (b : Bool). cond b 0 (n + 1) < 4) (sym (ne_eqb (n + 1) 4 ne)) (omega (arith, l, ne))
    ]

    here : (xs : List ℕ) (j x : ℕ) → x < 4 → get_or (set xs j x) j 0 < 4
    here [] j x l = omega arith
    here (y ∷ ys) zero x l = l
    here (y ∷ ys) (suc j) x l = here ys j x l

-- what a call knows of the floor, the seat and the part: f, d and p as callers see them, and what
-- is inside of floor and seat
pub record Seated {S V : Type 0} (meaning : S → Algebra V) (f : FloorData S) (d : SeatData S V) (p : PartData S V)
    (fid : TableId) (t : SetupData S) (sh : ℕ) (id : TableId) (s : ℕ) (v : View S V) (slots : List (ℕ × Slot V)) (claims : List ℕ) (room : ℕ)
    (next_fill next_read : List ℕ) : Type 0 where
  pub at : AtTable meaning fid t id v p
  pub setup : p.setup ≡ t
  pub shard : p.shard ≡ s
  pub count : t.plan.shards ≡ sh
  pub asked : f.setup.plan.shards ≡ sh
  pub fill : v.next_fill ≡ next_fill
  pub read : v.next_read ≡ next_read
  pub fill_slots : AreSlots sh next_fill
  pub read_slots : AreSlots sh next_read
  pub fills : (to x : ℕ) → x ≡ get_or next_fill to 0 → mailbox sh s to x ≡ fill_box f d to
  pub reads : (from x : ℕ) → x ≡ get_or next_read from 0 → mailbox sh from s x ≡ read_box f d from
  pub out : AreOpen t s v slots claims
  pub roomy : room ≡ 8 * sh
  pub few : length claims ≤ room
  pub below : s < sh
  pub knows : d.knows ≡ v
  pub same : d.shard ≡ s
  pub id_is : fid ≡ f.id
  pub setup_is : t ≡ f.setup

module _ {S V : Type 0} {meaning : S → Algebra V} {f : FloorData S} {d : SeatData S V} {p : PartData S V} {fid : TableId} {t : SetupData S} {sh : ℕ} {id : TableId} {s : ℕ} {v : View S V}
    {slots : List (ℕ × Slot V)} {claims : List ℕ} {room : ℕ} {next_fill next_read : List ℕ} where
  pub seated : {ahead : Option ℕ} → record { id = fid; setup = t; ahead = ahead } ≡ f → record { floor = id; shard = s; knows = v } ≡ d → IsTableSized fid t × (t.plan.shards ≡ sh) × (sh ≤ 64)
      → IsSeat (record { floor = id; shard = s; knows = v }) slots claims room next_fill next_read → IsAt meaning f d p → Seated meaning f d p fid t sh id s v slots claims room next_fill next_read
  seated {ahead} ff dd (sized, count, _) inv at =
      let moved : ViewLags meaning v p = subst (λ (z : SeatData S V). ViewLags meaning z.knows p) (sym dd) at.moved in
      let same = handled_same meaning moved.1 moved.0 p moved.3 in
      let b_is : inv.part ≡ moved.0 = (same_from_push [] [] inv.part moved.0 (sym inv.parts ∙ moved.2.parts)).1 in
      let setup : p.setup ≡ t = at.setup ∙ ap (λ (z : FloorData S). z.setup) (sym ff) in
      let of_part : inv.part.setup ≡ t = ap (λ (z : PartData S V). z.setup) b_is ∙ sym same.0 ∙ setup in
      let shards : inv.part.setup.plan.shards ≡ sh = ap (λ (u : SetupData S). u.plan.shards) of_part ∙ count in
      let out : AreOpen t s v slots claims = subst (λ (u : SetupData S). AreOpen u s v slots claims) of_part inv.claims_open in
      let roomy : room ≡ 8 * sh = inv.roomy ∙ ap (λ z. 8 * z) shards in
      record {
        at = record { sized = sized; own = ap (λ (z : SeatData S V). z.floor) dd ∙ at.floor ∙ ap (λ (z : FloorData S). z.id) (sym ff); moved = moved };
        setup = setup;
        shard = same.1 ∙ ap (λ (z : PartData S V). z.shard) (sym b_is) ∙ inv.shard;
        count = count;
        asked = ap (λ (z : FloorData S). z.setup.plan.shards) (sym ff) ∙ count;
        fill = inv.fill;
        read = inv.read;
        fill_slots = subst (λ z. AreSlots z next_fill) shards inv.fill_slots;
        read_slots = subst (λ z. AreSlots z next_read) shards inv.read_slots;
        fills = λ to x e. subst (λ (z : FloorData S). mailbox sh s to x ≡ fill_box z d to) ff (subst (λ (z : SeatData S V). mailbox sh s to x ≡ fill_box (record { id = fid; setup = t; ahead = ahead }) z to) dd
            (λ i. mailbox (sym count i) s to ((e ∙ ap (λ l. get_or l to 0) (sym inv.fill)) i)));
        reads = λ from x e. subst (λ (z : FloorData S). mailbox sh from s x ≡ read_box z d from) ff
            (subst (λ (z : SeatData S V). mailbox sh from s x ≡ read_box (record { id = fid; setup = t; ahead = ahead }) z from) dd
            (λ i. mailbox (sym count i) from s ((e ∙ ap (λ l. get_or l from 0) (sym inv.read)) i)));
        out = out;
        roomy = roomy;
        few = (omega (arith, few_claims t s v slots claims out, count, roomy));
        below = subst (λ z. s < z) shards inv.below;
        knows = ap (λ (z : SeatData S V). z.knows) (sym dd);
        same = ap (λ (z : SeatData S V). z.shard) (sym dd);
        id_is = ap (λ (z : FloorData S). z.id) ff;
        setup_is = ap (λ (z : FloorData S). z.setup) ff;
      }

  module _ (z : Seated meaning f d p fid t sh id s v slots claims room next_fill next_read) where
    -- a shard of the plan
    pub inside : (j : ℕ) → j < f.setup.plan.shards → j < sh
    inside j lt = subst (λ n. j < n) z.asked lt

    -- the ends of a mailbox that leads from the seat's shard, and of one that leads to it
    pub fill_between : {to k : ℕ} → IsBetween sh s to k → IsBetween t.plan.shards p.shard to k
    fill_between {to} {k} b = subst (λ (x : ℕ × ℕ). IsBetween x.0 x.1 to k) (λ i. (sym z.count i, sym z.shard i)) b

    pub read_between : {from k : ℕ} → IsBetween sh from s k → IsBetween t.plan.shards from p.shard k
    read_between {from} {k} b = subst (λ (x : ℕ × ℕ). IsBetween x.0 from x.1 k) (λ i. (sym z.count i, sym z.shard i)) b

    -- the mailbox is the next that a view with the same knowledge fills, or reads
    pub fill_next : {to k x : ℕ} {u : View S V} → IsBetween sh s to k → to < sh → k ≡ mailbox sh s to x → x ≡ get_or next_fill to 0 → u ≡ v → IsNextFill t.plan.shards p.shard to k u
    fill_next {to} {k} {x} {u} b lt e is_x same = record {
      between = fill_between b;
      below = subst (λ n. to < n) (sym z.count) lt;
      slot = e ∙ (λ i. mailbox (sym z.count i) (sym z.shard i) to ((is_x ∙ ap (λ l. get_or l to 0) (sym z.fill) ∙ ap (λ (y : View S V). get_or y.next_fill to 0) (sym same)) i));
    }

    pub fill_next_at : {to k x : ℕ} {u : View S V} → IsBetween sh s to k → to < sh → k ≡ mailbox sh s to x → x ≡ get_or next_fill to 0 → u ≡ v → IsNextFill t.plan.shards p.shard (dest t.plan.shards k) k u
    fill_next_at {to} {k} {x} {u} b lt e is_x same = let I = fill_next b lt e is_x same in subst (λ j. IsNextFill t.plan.shards p.shard j k u) (sym I.between.leads_to) I

    pub read_next_at : {from k x : ℕ} {u : View S V} → IsBetween sh from s k → from < sh → k ≡ mailbox sh from s x → x ≡ get_or next_read from 0 → u ≡ v → IsNextRead t.plan.shards (origin t.plan.shards k) p.shard k u
    read_next_at {from} {k} {x} {u} b lt e is_x same =
        let I : IsNextRead t.plan.shards from p.shard k u = record {
          between = read_between b;
          below = subst (λ n. from < n) (sym z.count) lt;
          slot = e ∙ (λ i. mailbox (sym z.count i) from (sym z.shard i) ((is_x ∙ ap (λ l. get_or l from 0) (sym z.read) ∙ ap (λ (y : View S V). get_or y.next_read from 0) (sym same)) i));
        } in subst (λ j. IsNextRead t.plan.shards j p.shard k u) (sym I.between.comes_from) I

    pub fill_end : {to k : ℕ} → IsBetween sh s to k → HasEnd t.plan.shards s k
    fill_end b = let e = fill_between b in (e.below, inl (e.comes_from ∙ z.shard))

    pub read_end : {from k : ℕ} → IsBetween sh from s k → HasEnd t.plan.shards s k
    read_end b = let e = read_between b in (e.below, inr (e.leads_to ∙ z.shard))

    -- a claim of the caller's on the mailbox k, as the seat has it
    pub fill_claim : {k b : ℕ} → k ≡ b → 0 < fill_claims b d.knows → 0 < fill_claims k v
    fill_claim e c = subst (λ (n : ℕ). 0 < n) (λ i. fill_claims (sym e i) (z.knows i)) c

    pub read_claim : {k b : ℕ} → k ≡ b → 0 < read_claims b d.knows → 0 < read_claims k v
    read_claim e c = subst (λ (n : ℕ). 0 < n) (λ i. read_claims (sym e i) (z.knows i)) c

    -- it is in the ring
    pub fill_ring : {k b : ℕ} → k ≡ b → 0 < fill_claims b d.knows → 0 < total (is k) claims
    fill_ring {k} e c = omega (arith, z.out.open_now k, fill_claim e c)

    pub read_ring : {k b : ℕ} → k ≡ b → 0 < read_claims b d.knows → 0 < total (is k) claims
    read_ring {k} e c = omega (arith, z.out.open_now k, read_claim e c)

    -- a pass that knows the same
    pub still_at : {id' : TableId} {v' : View S V} → id' ≡ id → v' ≡ v → AtTable meaning fid t id' v' p
    still_at {id'} {v'} e u = record { sized = z.at.sized; own = e ∙ z.at.own; moved = subst (λ (x : View S V). ViewLags meaning x p) (sym u) z.at.moved }

    -- a seat again, where the view w shows the part q
    pub again : (id' : TableId) (w : View S V) (q : PartData S V) (slots' : List (ℕ × Slot V)) (claims' : List ℕ) (room' : ℕ) (fill' read' : List ℕ)
        → q.setup ≡ t → q.shard ≡ s → w.parts ≡ q ∷ [] → w.next_fill ≡ fill' → w.next_read ≡ read' → AreSlots sh fill' → AreSlots sh read'
        → AreOpen t s w slots' claims' → room' ≡ room → IsSeat (record { floor = id'; shard = s; knows = w }) slots' claims' room' fill' read'
    again id' w q slots' claims' room' fill' read' setup shard parts fill read fills reads out roomy =
        let n : q.setup.plan.shards ≡ sh = ap (λ (u : SetupData S). u.plan.shards) setup ∙ z.count in record {
          part = q;
          parts = parts;
          shard = shard;
          below = subst (λ k. s < k) (sym n) z.below;
          fill = fill;
          read = read;
          fill_slots = subst (λ k. AreSlots k fill') (sym n) fills;
          read_slots = subst (λ k. AreSlots k read') (sym n) reads;
          claims_open = subst (λ (u : SetupData S). AreOpen u s w slots' claims') (sym setup) out;
          roomy = roomy ∙ z.roomy ∙ ap (λ k. 8 * k) (sym n);
        }

    -- the part is shown, so the seat is ready for the next call
    pub placed : {id' : TableId} {u w : View S V} {q : PartData S V} → id' ≡ id → q.setup ≡ t → StepsTo u q w → IsAt meaning f (record { floor = id'; shard = s; knows = w }) q
    placed {id'} {u} {w} {q} same setup went = record { floor = same ∙ z.at.own ∙ z.id_is; setup = setup ∙ z.setup_is; moved = (q, [], went.shows, refl) }

    -- no claim changed
    pub still : {id' : TableId} {u w : View S V} {q : PartData S V} {slots' : List (ℕ × Slot V)} → q.setup ≡ t → q.shard ≡ s → StepsTo u q w
        → u.fills ≡ v.fills → u.reads ≡ v.reads → u.next_fill ≡ v.next_fill → u.next_read ≡ v.next_read → slots' ≡ slots
        → IsSeat (record { floor = id'; shard = s; knows = w }) slots' claims room next_fill next_read
    still {id'} {u} {w} {q} {slots'} setup shard went fills reads nf nr slots_are =
        again id' w q slots' claims room next_fill next_read setup shard went.shows.parts (went.next_fill ∙ nf ∙ z.fill) (went.next_read ∙ nr ∙ z.read) z.fill_slots z.read_slots
        (subst (λ l. AreOpen t s w l claims) (sym slots_are) (record {
          keys = z.out.keys;
          empty = z.out.empty;
          once = z.out.once;
          own = z.out.own;
          open_now = λ j. z.out.open_now j ∙ (λ i. total (is j) (sym (went.fills ∙ fills) i) + total (is j) (sym (went.reads ∙ reads) i));
        })) refl

    -- the mailbox k is claimed: its claim is the first of the ring
    pub claimed : {id' : TableId} {u w : View S V} {q : PartData S V} {k : ℕ} {slots' : List (ℕ × Slot V)} {ring : Buffer ℕ} → q.setup ≡ t → q.shard ≡ s → StepsTo u q w
        → ((j : ℕ) → fill_claims j u + read_claims j u ≡ is j k + (fill_claims j v + read_claims j v)) → u.next_fill ≡ v.next_fill → u.next_read ≡ v.next_read
        → Unclaimed k v → HasEnd t.plan.shards s k → slots' ≡ (k, empty_slot q.setup k) ∷ slots → ring ≡ buffer (take room (k ∷ claims)) room
        → IsSeat (record { floor = id'; shard = s; knows = w }) slots' ring.items ring.capacity next_fill next_read
    claimed {id'} {u} {w} {q} {k} {slots'} {ring} setup shard went more nf nr free end slots_are ring_is =
        let sums : (j : ℕ) → fill_claims j w + read_claims j w ≡ is j k + (fill_claims j v + read_claims j v) = λ j. (λ i. total (is j) (went.fills i) + total (is j) (went.reads i)) ∙ more j in
        let out : AreOpen t s w ((k, empty_slot t k) ∷ slots) (k ∷ claims) = claims_more t s v w slots claims k z.out free end sums in
        let l = few_claims t s w ((k, empty_slot t k) ∷ slots) (k ∷ claims) out in
        let all : ring.items ≡ k ∷ claims = ap (λ (b : Buffer ℕ). b.items) ring_is ∙ take_all room (k ∷ claims) (omega (arith, l, z.count, z.roomy)) in
        let at_home : slots' ≡ (k, empty_slot t k) ∷ slots = slots_are ∙ ap (λ (x : SetupData S). (k, empty_slot x k) ∷ slots) setup in
        again id' w q slots' ring.items ring.capacity next_fill next_read setup shard went.shows.parts (went.next_fill ∙ nf ∙ z.fill) (went.next_read ∙ nr ∙ z.read) z.fill_slots z.read_slots
        (subst (λ l. AreOpen t s w l ring.items) (sym at_home) (subst (AreOpen t s w ((k, empty_slot t k) ∷ slots)) (sym all) out)) (ap (λ (b : Buffer ℕ). b.capacity) ring_is)

    -- the claim on the mailbox k, which was brought to the front, has ended
    pub released : {id' : TableId} {v' u w : View S V} {q : PartData S V} {k : ℕ} {y : Slot V} {slots' slots'' : List (ℕ × Slot V)} {claims' : List ℕ}
        {room' : ℕ} {ring : Buffer ℕ} {fill' read' : List ℕ}
        → q.setup ≡ t → q.shard ≡ s → v' ≡ v → StepsTo u q w → ((j : ℕ) → is j k + (fill_claims j u + read_claims j u) ≡ fill_claims j v' + read_claims j v')
        → AreOpen t s v slots' claims' → slots' ≡ (k, y) ∷ rest slots' → slots'' ≡ rest slots' → ring ≡ buffer (drop 1 claims') room' → room' ≡ room
        → u.next_fill ≡ fill' → u.next_read ≡ read' → AreSlots sh fill' → AreSlots sh read'
        → IsSeat (record { floor = id'; shard = s; knows = w }) slots'' ring.items ring.capacity fill' read'
    released {id'} {v'} {u} {w} {q} {k} {y} {slots'} {slots''} {claims'} {room'} {ring} {fill'} {read'} setup shard view went less out first slots_are ring_is roomy nf nr fills reads =
        let sums : (j : ℕ) → is j k + (fill_claims j w + read_claims j w) ≡ fill_claims j v + read_claims j
        v = λ j. (λ i. is j k + (total (is j) (went.fills i) + total (is j) (went.reads i))) ∙ less j
        ∙ ap (λ (x : View S V). fill_claims j x + read_claims j x) view in
        let out' : AreOpen t s w (rest slots') (drop 1 claims') = claims_less t s v w slots' claims' k y out first sums in
        again id' w q slots'' ring.items ring.capacity fill' read' setup shard went.shows.parts (went.next_fill ∙ nf) (went.next_read ∙ nr) fills reads
        (subst (λ l. AreOpen t s w l ring.items) (sym slots_are)
        (subst (AreOpen t s w (rest slots')) (sym (ap (λ (b : Buffer ℕ). b.items) ring_is)) out')) (ap (λ (b : Buffer ℕ). b.capacity) ring_is ∙ roomy)

-- one claim less to fill, or to read
pub fill_less : {S V : Type 0} (v : View S V) (k to x j : ℕ) → 0 < fill_claims k v
    → is j k + (fill_claims j (at_word k x (end_fill to k v)) + read_claims j (at_word k x (end_fill to k v))) ≡ fill_claims j v + read_claims j v
fill_less v k to x j c = elim (cases_eq j k) [
  | inl e ↦ subst (λ z. is z k + (total (is z) (without k v.fills) + total (is z) v.reads) ≡ total (is z) v.fills + total (is z) v.reads) (sym e)
      (omega (arith, without_same k v.fills c, is_self k))
  | inr ne ↦ (omega (arith, without_else j k v.fills ne, is_else j k ne))
]

pub read_less : {S V : Type 0} (v : View S V) (k from x j : ℕ) → 0 < read_claims k v
    → is j k + (fill_claims j (at_word k x (end_read from k v)) + read_claims j (at_word k x (end_read from k v))) ≡ fill_claims j v + read_claims j v
read_less v k from x j c = elim (cases_eq j k) [
  | inl e ↦ subst (λ z. is z k + (total (is z) v.fills + total (is z) (without k v.reads)) ≡ total (is z) v.fills + total (is z) v.reads) (sym e)
      (omega (arith, without_same k v.reads c, is_self k))
  | inr ne ↦ (omega (arith, without_else j k v.reads ne, is_else j k ne))
]

-- the same step, of the mailbox and the view as callers name them
pub renamed : {S V : Type 0} (F : ℕ → View S V → View S V) {k b : ℕ} {v u : View S V} {q : PartData S V} {w : View S V} → k ≡ b → v ≡ u → StepsTo (F k v) q w → StepsTo (F b u) q w
renamed F {k} {b} {v} {u} {q} {w} e d g = subst (λ (z : View _ _). StepsTo z q w) (λ i. F (e i) (d i)) g

-- the slot that comes next moves on
pub moved_on : {next items : List ℕ} {to at x y : ℕ} → next ≡ items → at ≡ to → x ≡ get_or items to 0 → y ≡ next_slot x → set next to (next_slot (get_or next to 0)) ≡ set items at y
moved_on {next} {items} {to} {at} e j is_x is_y = (λ i. set (e i) (sym j i) (next_slot ((ap (λ (l : List ℕ). get_or l to 0) e ∙ sym is_x) i))) ∙ ap (set items at) (sym is_y)

-- the slot that is read from a row
pub slot_at : {n : ℕ} {next : List ℕ} {at to x : ℕ} → AreSlots n next → at ≡ to → to < n → x ≡ get_or next at x → (x ≡ get_or next to 0) × (x < 4)
slot_at {n} {next} {at} {to} {x} h j lt is =
    let e : x ≡ get_or next to 0 = get_or_read next at x (omega (arith, h.long, j, lt)) is 0 ∙ ap (λ k. get_or next k 0) j in (e, subst (λ k. k < 4) (sym e) (h.low to))

-- a row that has moved on
pub row_next : {n : ℕ} {next : List ℕ} {at to x y : ℕ} → AreSlots n next → at ≡ to → x ≡ get_or next to 0 → y ≡ next_slot x → AreSlots n (set next at y)
row_next {n} {next} {at} {to} {x} {y} h j is_x is_y = subst (λ k. AreSlots n (set next at k)) (sym is_y) (slots_next n next at x h (is_x ∙ ap (λ k. get_or next k 0) (sym j)))

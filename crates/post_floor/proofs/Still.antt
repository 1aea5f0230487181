-- A floor on which nothing can move shows a state that has ended.
use Rattle.post_floor.proofs.Words.{◌≡◌, ◌≢◌, ◌⊎◌, ℕ, zero, suc, ◌+◌, ◌*◌, ◌/◌, ◌%◌, ◌<◌, true, List, [], ◌∷◌, get_or, refl, sym, ap, ◌∙◌, subst, inl, inr, arith, cases_eq, mod-lt, some, some-injective, some-ne-none, get_elem?, State, Algebra, Item, HasEnded, well_formed, PartData, SetupData, network_of, place_in, IsPlanned, total, is, sum_below_same, sum_zero, AllLawful, is_self, HoldsTables, core_of, has_ended, ended_empty, View, empty, filling, full, reading, box_count, mailbox, dest, origin, slot_after, AreInOrder}
use Rattle.std.proofs.lemmas.Nat.{div-add-mod'}
use Rattle.shard_part.specs.Weights.{All, part_weight, outs_weight}
use Rattle.post_floor.specs.Floor.{Slot, flat, fill_claims, read_claims, box, in_transit, words_between, IsSeatOf, FloorInvariant, Rests, IsStill}
use Rattle.post_floor.proofs.Totals.{total_none, is_one}
use Rattle.post_floor.proofs.Parts.{flat_total, flat_each, flat_at}
use Rattle.post_floor.proofs.Opened.{ends_below}
use Rattle.post_floor.proofs.Order.{after_onto}
use Rattle.post_floor.proofs.Done.{knows_over}

-- a sum that is not 0 has a member that is not 0
some_at : {A : Type 0} (f : A → ℕ) (xs : List A) → 0 < total f xs → (i : ℕ) × (x : A) × (get_elem? xs i ≡ some x) × (0 < f x)
some_at f [] l = absurd (omega (arith, l))
some_at f (x ∷ xs) l = elim (cases_eq (f x) 0) [
  | inl z ↦ (let r = some_at f xs (omega (arith, l, z)) in (suc r.0, r.1, r.2, r.3))
  | inr ne ↦ (0, x, refl, omega (arith, ne))
]

all_at : {A : Type 0} (P : A → Type 0) (xs : List A) (i : ℕ) (x : A) → All P xs → get_elem? xs i ≡ some x → P x
all_at P [] i x a e = absurd (some-ne-none x (sym e))
all_at P (y ∷ ys) zero x a e = subst P (some-injective y x e) a.0
all_at P (y ∷ ys) (suc i) x a e = all_at P ys i x a.1 e

all_zero : {A : Type 0} (f : A → ℕ) (xs : List A) → All (λ x. f x ≡ 0) xs → total f xs ≡ 0
all_zero f [] a = refl
all_zero f (x ∷ xs) a = omega (arith, a.0, all_zero f xs a.1)

all_map : {A : Type 0} (P Q : A → Type 0) (xs : List A) → ((i : ℕ) (x : A) → get_elem? xs i ≡ some x → P x → Q x) → All P xs → All Q xs
all_map P Q [] h a = tt
all_map P Q (x ∷ xs) h a = (h 0 x refl a.0, all_map P Q xs (λ i y e. h (suc i) y e) a.1)

outs_zero : {V : Type 0} (h : ℕ → Item V → ℕ) (k : ℕ) (os : List (List (Item V))) → ((j : ℕ) → get_or os j [] ≡ []) → outs_weight h k os ≡ 0
outs_zero h k [] e = refl
outs_zero h k (o ∷ os) e = let p : total (h k) o ≡ 0 = ap (total (h k)) (e 0) in let q = outs_zero h (suc k) os (λ j. e (suc j)) in omega (arith, p, q)

-- a mailbox by its ends and its slot
box_is : (n k : ℕ) → mailbox n (origin n k) (dest n k) (k % 4) ≡ k
unfolding origin dest
box_is n k = ap (λ z. z * 4 + k % 4) (div-add-mod' (k / 4) n) ∙ div-add-mod' k 4

module _ {S V : Type 0} (meaning : S → Algebra V) (t : SetupData S) (s : State (Slot V) (View S V)) (r : FloorInvariant meaning t s) (still : IsStill t.plan.shards s) where
  abbrev n : ℕ
  n = t.plan.shards

  -- no mailbox is being filled or read
  at_rest : (k : ℕ) → k < box_count n → (get_or s.words k 0 ≡ empty) ⊎ (get_or s.words k 0 ≡ full)
  at_rest k lt =
      let ok = r.boxes k lt in let w : ℕ = get_or s.words k 0 in let low = ok.low in
      let f = total_none (fill_claims k) s.views (λ id v at. still.fills k id v at) in let g = total_none (read_claims k) s.views (λ id v at. still.reads k id v at) in
      let nf : w ≢ filling = λ e. let a : is filling w ≡ is filling filling = ap (is filling) e in let b = is_self filling in omega (arith, f, ok.fills_is, a, b) in
      let nr : w ≢ reading = λ e. let a : is reading w ≡ is reading reading = ap (is reading) e in let b = is_self reading in omega (arith, g, ok.reads_is, a, b) in
      elim (cases_eq w empty) [ inl e ↦ inl e | inr ne ↦ inr (omega (arith, low, nf, nr, ne)) ]

  -- each shard's part has a view
  pub record Found (j : ℕ) : Type 0 where
    pub id : ℕ
    pub v : View S V
    pub p : PartData S V
    pub at : get_elem? s.views id ≡ some v
    pub rests : Rests n s.words v p
    pub shard : p.shard ≡ j
    pub seat : IsSeatOf n v p

  -- of a part that some view has
  seat_of_part : (id : ℕ) (v : View S V) (i : ℕ) (p : PartData S V) → get_elem? s.views id ≡ some v → get_elem? v.parts i ≡ some p → IsSeatOf n v p
  seat_of_part id v i p at has = let rests = all_at (Rests n s.words v) v.parts i p (still.parts id v at) has in record {
    place = i;
    has = has;
    below = all_at (λ (q : PartData S V). q.shard < n) v.parts i p (flat_at (λ (q : PartData S V). q.shard < n) s.views id v r.below at) has;
    fills = rests.next_fill;
    reads = rests.next_read;
  }

  pub find : (j : ℕ) → j < n → Found j
  find j lt =
      let f : PartData S V → ℕ = λ p. is j p.shard in
      let a = some_at (λ (v : View S V). total f v.parts) s.views (omega (arith, r.whole j lt, flat_total f s.views)) in
      let b = some_at f a.1.parts a.3 in record {
        id = a.0;
        v = a.1;
        p = b.1;
        at = a.2;
        rests = all_at (Rests n s.words a.1) a.1.parts b.0 b.1 (still.parts a.0 a.1 a.2) b.2;
        shard = sym (is_one j b.1.shard b.3);
        seat = seat_of_part a.0 a.1 b.0 b.1 a.2 b.2;
      }

  -- all four mailboxes between two shards are empty
  pair_empty : (i : ℕ) (v : View S V) (p : PartData S V) (g x : ℕ) → get_elem? s.views i ≡ some v → IsSeatOf n v p → g < n → p.shard ≢ g → x < 4 → words_between n s.words p.shard g x ≡ empty
  pair_empty i v p g x at P gl ne xl =
      let G = find g gl in
      let word : ℕ → ℕ = words_between n s.words p.shard g in
      let read : ℕ = get_or G.v.next_read p.shard 0 in
      let o : AreInOrder word read (get_or v.next_fill g 0) = subst (λ z. AreInOrder (words_between n s.words p.shard z) read (get_or v.next_fill z 0)) G.shard
      (r.ordered i G.id v G.v p G.p at G.at P G.seat (λ e. ne (e ∙ G.shard))) in
      let rest : (y : ℕ) → y < 4 → (word y ≡ empty) ⊎ (word y ≡ full) = λ y l. at_rest (mailbox n p.shard g y) (Rattle.post_floor.proofs.Ordering.box_below n p.shard g y gl l P.below) in
      let not_full : word read ≢ full = subst (λ z. words_between n s.words p.shard z read ≢ full) G.shard (G.rests.from p.shard P.below (λ e. ne (e ∙ G.shard))) in
      let none' : o.count ≡ 0 = elim (cases_eq o.count 0) [
        | inl z ↦ z
        | inr nz ↦ absurd (elim (o.taken 0 (omega (arith, nz))) [
          | inl f ↦ not_full f
          | inr w ↦ (let q = w.1 in elim (rest read o.low) [ inl e ↦ omega (arith, q, e) | inr e ↦ omega (arith, q, e) ])
        ])
      ] in
      let y = after_onto read x o.low xl in
      let at' : word (slot_after read y.0) ≡ empty = elim (o.free y.0 (omega (arith, none')) y.1) [
        | inl e ↦ e
        | inr w ↦ absurd (let q = w.1 ∙ refl in let z : word (slot_after read y.0) ≡ word x = ap word y.2 in elim (rest x xl) [ inl e ↦ omega (arith, q, z, e) | inr e ↦ omega (arith, q, z, e) ])
      ] in ap word (sym y.2) ∙ at'

  -- no mailbox is full
  none_full : (k : ℕ) → k < box_count n → get_or s.words k 0 ≡ empty
  none_full k lt = elim (cases_eq (origin n k) (dest n k)) [
    | inl same ↦ elim (at_rest k lt) [ inl e ↦ e | inr f ↦ absurd ((r.boxes k lt).apart f same) ]
    | inr ne ↦ (
        let b = ends_below n k lt in let F = find (origin n k) b.0 in
        let e = pair_empty F.id F.v F.p (dest n k) (k % 4) F.at F.seat b.1 (λ q. ne (sym F.shard ∙ q)) (mod-lt k (omega arith)) in
        ap (λ z. get_or s.words z 0) (sym (box_is n k)) ∙ subst (λ z. words_between n s.words z (dest n k) (k % 4) ≡ empty) F.shard e)
  ]

  no_mail : (h : ℕ → Item V → ℕ) → in_transit n s.words s.homes h ≡ 0
  no_mail h = sum_below_same (λ k. box (h (dest n k)) (get_or s.words k 0) (get_elem? s.homes k)) (λ _. 0) (box_count n)
      (λ k lt. ap (λ (z : ℕ). box (h (dest n k)) z (get_elem? s.homes k)) (none_full k lt)) ∙ sum_zero (λ _. 0) (box_count n) (λ _. refl)

  -- a part that rests has nothing
  part_empty : (h : ℕ → Item V → ℕ) (id : ℕ) (v : View S V) (i : ℕ) (p : PartData S V) → get_elem? s.views id ≡ some v → get_elem? v.parts i ≡ some p → Rests n s.words v p → part_weight h p ≡ 0
  part_empty h id v i p at has R =
      let P = seat_of_part id v i p at has in
      let q : total (h p.shard) p.queue ≡ 0 = ap (total (h p.shard)) R.queue in
      let o = outs_zero h 0 p.outs (λ j. elim (R.to j) [
        | inl e ↦ e
        | inr w ↦ absurd (
            let G = find j w.0 in
            let ord = r.ordered id G.id v G.v p G.p at G.at P G.seat (λ e. w.1 (sym (e ∙ G.shard))) in
            let low : get_or v.next_fill j 0 < 4 = subst (λ z. get_or v.next_fill z 0 < 4) G.shard (Rattle.post_floor.proofs.Order.fill_low _ _ _ ord) in
            w.2 (pair_empty id v p j (get_or v.next_fill j 0) at P w.0 (λ e. w.1 (sym e)) low))
      ]) in omega (arith, q, o)

  no_items : (h : ℕ → Item V → ℕ) → total (part_weight h) (flat s.views) ≡ 0
  no_items h = all_zero (part_weight h) (flat s.views) (flat_each (λ (p : PartData S V). part_weight h p ≡ 0) s.views
      (λ id v at. all_map (Rests n s.words v) (λ (p : PartData S V). part_weight h p ≡ 0) v.parts (λ i p e R. part_empty h id v i p at e R) (still.parts id v at)))

  -- where nothing can move, the state that views and mailboxes represent has ended
  pub still_has_ended : AllLawful meaning → IsPlanned t 0 → HasEnded (core_of meaning t r.events)
  still_has_ended L P =
      let W = well_formed t.diffusion.roads t.diffusion.source P.roads P.source.0 in
      let w = r.shown.shown.weighs (λ _ _. 1) in let a = no_items (λ _ _. 1) in let b = no_mail (λ _ _. 1) in
      (ended_empty (meaning t.diffusion.algebra) (network_of t) (place_in t) (L t.diffusion.algebra) W r.events).1 (sym w ∙ omega (arith, a, b))

  -- and the part of the source's shard knows it
  pub still_knows : AllLawful meaning → IsPlanned t 0 → (id i : ℕ) (v : View S V) (p : PartData S V) → get_elem? s.views id ≡ some v → get_elem? v.parts i ≡ some p
      → p.shard ≡ place_in t 0 → has_ended p ≡ true
  still_knows L P id i v p at has here =
      let W = well_formed t.diffusion.roads t.diffusion.source P.roads P.source.0 in
      let same : p.setup ≡ t = all_at (λ (q : PartData S V). q.setup ≡ t) v.parts i p (flat_at (λ (q : PartData S V). q.setup ≡ t) s.views id v r.shown.same at) has in
      let T = all_at (HoldsTables (meaning t.diffusion.algebra) (network_of t) (place_in t) (core_of meaning t r.events)) v.parts i p
      (flat_at (HoldsTables (meaning t.diffusion.algebra) (network_of t) (place_in t) (core_of meaning t r.events)) s.views id v r.shown.shown.tables at) has in
      knows_over meaning t W p (core_of meaning t r.events) same T (sym here) (still_has_ended L P)

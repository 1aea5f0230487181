-- A part that is sound by itself never outgrows its queue; a part that holds its share is sound.
use Rattle.shard_part.proofs.Words.{◌≡◌, ℕ, suc, ◌<◌, ◌≤◌, Bool, true, false, ◌||◌, List, [], ◌∷◌, length, get_or, ◌⊎◌, refl, ap, ◌∙◌, inl, inr, arith, eq-eqb, ne_eqb, sym, eqb, cases_eq, and_from, cond-true, cond-false, Item, MessageOn, SignalOn, Algebra, Network, WellFormed, sum_below, one_if, item_arc, at, PartData, IsArc, vertex_of, maker_of, total, counted, is, All, LocalInvariant, total_by_arc, sum_most}
use Rattle.shard_store.specs.Capacities.{touches, queue_bound, joins, outbox_bound}
use Rattle.scholten_core.proofs.Items.{at-skip, at-nil}
use Rattle.shard_part.proofs.Room.{each_one, outs_member}

count_at : {V : Type 0} (b : ℕ) (xs : List (Item V)) → counted b xs ≡ length (at b xs)
unfolding at
count_at b [] = refl
count_at b (i ∷ xs) = elim (cases_eq (item_arc i) b) [
  | inl e ↦ (let q = ap one_if (eq-eqb b (item_arc i) (sym e)) in
      let r = ap length (cond-true (eqb (item_arc i) b) (i ∷ at b xs) (at b xs) (eq-eqb (item_arc i) b e)) in let p = count_at b xs in
      omega (arith, q, r, p))
  | inr n ↦ (let q = ap one_if (ne_eqb b (item_arc i) (λ e. n (sym e))) in
      let r = ap length (cond-false (eqb (item_arc i) b) (i ∷ at b xs) (at b xs) (ne_eqb (item_arc i) b n)) in let p = count_at b xs in
      omega (arith, q, r, p))
]

-- a list of items, no arc twice, each on an arc for which there is room
module _ {V : Type 0} (A : Algebra V) (N : Network) (room : ℕ → ℕ) where
  abbrev Counts : Item V → Type 0
  Counts i = (room (item_arc i) ≡ 1) × IsArc N (item_arc i)

  arc_real : WellFormed N → (b : ℕ) → IsArc N b → b < suc N.arcs
  arc_real W b r = elim (cases_eq b 0) [
    | inl e ↦ (omega (arith, e))
    | inr n ↦ (let k = W.real b (r.1 n) in omega (arith, k))
  ]

  nothing_past : WellFormed N → (xs : List (Item V)) → All Counts xs → (b : ℕ) → suc N.arcs ≤ b → at b xs ≡ []
  nothing_past W [] h b l = at-nil b
  nothing_past W (i ∷ xs) h b l = at-skip A N b i xs (λ e. let k = arc_real W (item_arc i) h.0.1 in omega (arith, k, e, l)) ∙ nothing_past W xs h.1 b l

  counted_most : (xs : List (Item V)) → All Counts xs → (b : ℕ) → (counted b xs ≡ 0) ⊎ (room b ≡ 1)
  counted_most [] h b = inl refl
  counted_most (i ∷ xs) h b = elim (cases_eq b (item_arc i)) [
    | inl e ↦ inr (ap room e ∙ h.0.0)
    | inr n ↦ (elim (counted_most xs h.1 b) [
      | inl k ↦ inl (let q = ap one_if (ne_eqb b (item_arc i) n) in omega (arith, q, k))
      | inr k ↦ inr k
    ])
  ]

  pub lists_fit : WellFormed N → (xs : List (Item V)) → All Counts xs → ((b : ℕ) → counted b xs ≤ 1) → length xs ≤ sum_below room (suc N.arcs)
  lists_fit W xs h one =
      let n = each_one (λ (i : Item V). 1) xs (λ i. refl) in
      let by = total_by_arc A N (λ i. 1) (suc N.arcs) xs (nothing_past W xs h) in
      let most = sum_most (λ b. total (λ (i : Item V). 1) (at b xs)) room (suc N.arcs) (λ b.
      (let c = count_at b xs in let u = each_one (λ (i : Item V). 1) (at b xs) (λ i. refl) in let o = one b in
      elim (counted_most xs h b) as (λ _. total (λ (i : Item V). 1) (at b xs) ≤ room b) [ inl k ↦ (omega (arith, c, u, k)) | inr k ↦ (omega (arith, c, u, k, o)) ])) in
      omega (arith, n, by, most)

or_left : (s t : Bool) → s ≡ true → one_if (s || t) ≡ 1
or_left s true e = ap (λ z. one_if (z || true)) e
or_left s false e = ap (λ z. one_if (z || false)) e

or_right : (s t : Bool) → t ≡ true → one_if (s || t) ≡ 1
or_right true t e = ap (λ z. one_if (true || z)) e
or_right false t e = ap (λ z. one_if (false || z)) e

module _ {V : Type 0} (A : Algebra V) (N : Network) (place : ℕ → ℕ) where
  queue_counts : (s : ℕ) (xs : List (Item V)) → All (λ i. (place (vertex_of N i) ≡ s) × IsArc N (item_arc i)) xs → All (Counts A N (touches N place s)) xs
  queue_counts s [] h = tt
  queue_counts s (i ∷ xs) h = ((one i h.0.0, h.0.1), queue_counts s xs h.1)
    where
      one : (i : Item V) → place (vertex_of N i) ≡ s → touches N place s (item_arc i) ≡ 1
      one (MessageOn a x) m = or_left _ _ (eq-eqb (place (N.head a)) s m)
      one (SignalOn a) m = or_right _ _ (eq-eqb (place (N.tail a)) s m)

  outbox_counts : (s t : ℕ) (xs : List (Item V)) → All (λ i. (place (vertex_of N i) ≡ t) × (place (maker_of N i) ≡ s) × IsArc N (item_arc i)) xs → All (Counts A N (joins N place s t)) xs
  outbox_counts s t [] h = tt
  outbox_counts s t (i ∷ xs) h = ((one i h.0.0 h.0.1, h.0.2), outbox_counts s t xs h.1)
    where
      one : (i : Item V) → place (vertex_of N i) ≡ t → place (maker_of N i) ≡ s → joins N place s t (item_arc i) ≡ 1
      one (MessageOn a x) m n = or_left _ _ (and_from _ _ (eq-eqb (place (N.head a)) t m) (eq-eqb (place (N.tail a)) s n))
      one (SignalOn a) m n = or_right _ _ (and_from _ _ (eq-eqb (place (N.tail a)) t m) (eq-eqb (place (N.head a)) s n))

module _ {S V : Type 0} (A : Algebra V) (N : Network) (place : ℕ → ℕ) where
  -- with no core in sight
  pub sound_fits : WellFormed N → (p : PartData S V) → LocalInvariant N place p → length p.queue ≤ queue_bound N place p.shard
  sound_fits W p H = lists_fit A N (touches N place p.shard) W p.queue (queue_counts A N place p.shard p.queue H.here) (λ b. let o = H.once b in omega (arith, o))

  pub sound_out_fits : WellFormed N → (p : PartData S V) → LocalInvariant N place p → (t : ℕ) → length (get_or p.outs t []) ≤ outbox_bound N place p.shard t
  sound_out_fits W p H t = lists_fit A N (joins N place p.shard t) W (get_or p.outs t []) (outbox_counts A N place p.shard t (get_or p.outs t []) (H.gone t))
      (λ b. let o = H.once b in let m = outs_member (λ _ j. is b (item_arc j)) 0 t p.outs in omega (arith, o, m))

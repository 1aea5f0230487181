-- The arcs with an end in a shard, seen from it.
use Rattle.std.proofs.Common.{◌≡◌, ℕ, suc, ◌<◌, ◌≤◌, Bool, true, false, cond, ◌&&◌, ◌||◌, eqb, refl, sym, ap, ◌∙◌, inl, inr, arith, eqb-true, eq-eqb, ne_eqb}
use Rattle.shard_store.proofs.Words.{cases_eq, cases_Bool, cond-true, cond-false, false≢true, Network, sum_below, one_if, is}
use Rattle.shard_store.specs.Capacities.{touches, joins, queue_bound, outbox_bound}
use Rattle.shard_store.proofs.Counting.{sum_swap}
use Rattle.scholten_core.proofs.Basics.{one_if-most, sum_same, sum_zero, sum_ones, sum_most, sum_term, sum_one}

-- an arc between the shards s and t, seen from s: by its head where it leaves s, by its tail where
-- it only enters s
abbrev pub seen_from : ℕ → ℕ → ℕ → ℕ → ℕ
seen_from s t a h = cond (eqb a s) (one_if (eqb h t)) (cond (eqb h s) (one_if (eqb a t)) 0)

pub joins_seen : (s t a h : ℕ) → one_if ((eqb h t && eqb a s) || (eqb a t && eqb h s)) ≡ seen_from s t a h
joins_seen s t a h = elim (cases_Bool (eqb a s)) [
  | inl p ↦ elim (cases_Bool (eqb h t)) [
    | inl q ↦ (λ i. one_if ((q i && p i) || (eqb a t && eqb h s))) ∙ sym (cond-true (eqb a s) (one_if (eqb h t)) (cond (eqb h s) (one_if (eqb a t)) 0) p ∙ ap one_if q)
    | inr q ↦ elim (cases_Bool (eqb h s)) [
      | inl r ↦ elim (cases_Bool (eqb a t)) [
        | inl u ↦ absurd (false≢true (sym q ∙ eq-eqb h t (eqb-true h s r ∙ sym (eqb-true a s p) ∙ eqb-true a t u)))
        | inr u ↦ (λ i. one_if ((q i && p i) || (u i && r i))) ∙ sym (cond-true (eqb a s) (one_if (eqb h t)) (cond (eqb h s) (one_if (eqb a t)) 0) p ∙ ap one_if q)
      ]
      | inr r ↦ (λ i. one_if ((q i && p i) || (eqb a t && r i))) ∙ none (eqb a t) ∙ sym (cond-true (eqb a s) (one_if (eqb h t)) (cond (eqb h s) (one_if (eqb a t)) 0) p ∙ ap one_if q)
    ]
  ]
  | inr p ↦ elim (cases_Bool (eqb h s)) [
    | inl r ↦ (λ i. one_if ((eqb h t && p i) || (eqb a t && r i))) ∙ only (eqb h t) (eqb a t)
        ∙ sym (cond-false (eqb a s) (one_if (eqb h t)) (cond (eqb h s) (one_if (eqb a t)) 0) p ∙ cond-true (eqb h s) (one_if (eqb a t)) 0 r)
    | inr r ↦ (λ i. one_if ((eqb h t && p i) || (eqb a t && r i))) ∙ nothing (eqb h t) (eqb a t)
        ∙ sym (cond-false (eqb a s) (one_if (eqb h t)) (cond (eqb h s) (one_if (eqb a t)) 0) p ∙ cond-false (eqb h s) (one_if (eqb a t)) 0 r)
  ]
]
  where
    none : (z : Bool) → one_if ((false && true) || (z && false)) ≡ 0
    none true = refl
    none false = refl

    only : (y z : Bool) → one_if ((y && false) || (z && true)) ≡ one_if z
    only true true = refl
    only true false = refl
    only false true = refl
    only false false = refl

    nothing : (y z : Bool) → one_if ((y && false) || (z && false)) ≡ 0
    nothing true true = refl
    nothing true false = refl
    nothing false true = refl
    nothing false false = refl

turn : (x y : ℕ) → one_if (eqb x y) ≡ one_if (eqb y x)
turn x y = elim (cases_eq x y) [
  | inl e ↦ ap one_if (eq-eqb x y e) ∙ sym (ap one_if (eq-eqb y x (sym e)))
  | inr n ↦ ap one_if (ne_eqb x y n) ∙ sym (ap one_if (ne_eqb y x (λ e. n (sym e))))
]

-- over all shards an arc is seen once where it has an end in s
pub seen_sum : (s a h m : ℕ) → a < m → h < m → sum_below (λ t. seen_from s t a h) m ≡ one_if (eqb h s || eqb a s)
seen_sum s a h m la lh = elim (cases_Bool (eqb a s)) [
  | inl p ↦ sum_same (λ t. seen_from s t a h) (λ t. one_if (eqb t h)) m
      (λ t. cond-true (eqb a s) (one_if (eqb h t)) (cond (eqb h s) (one_if (eqb a t)) 0) p ∙ turn h t) ∙ sum_one h m lh
      ∙ sym (ap (λ z. one_if (eqb h s || z)) p ∙ right (eqb h s))
  | inr p ↦ elim (cases_Bool (eqb h s)) [
    | inl r ↦ sum_same (λ t. seen_from s t a h) (λ t. one_if (eqb t a)) m
        (λ t. cond-false (eqb a s) (one_if (eqb h t)) (cond (eqb h s) (one_if (eqb a t)) 0) p ∙ cond-true (eqb h s) (one_if (eqb a t)) 0 r ∙ turn a t)
        ∙ sum_one a m la ∙ sym (ap (λ z. one_if (z || eqb a s)) r)
    | inr r ↦ sum_same (λ t. seen_from s t a h) (λ t. 0) m (λ t. cond-false (eqb a s) (one_if (eqb h t)) (cond (eqb h s) (one_if (eqb a t)) 0) p
        ∙ cond-false (eqb h s) (one_if (eqb a t)) 0 r) ∙ sum_zero (λ t. 0) m (λ k. refl) ∙ sym (λ i. one_if (r i || p i))
  ]
]
  where
    right : (z : Bool) → one_if (z || true) ≡ 1
    right true = refl
    right false = refl

module _ (N : Network) (place : ℕ → ℕ) where
  -- all outboxes together are as wide as the queue, with what stays in the shard
  pub capacities_sum : (s m : ℕ) → ((v : ℕ) → place v < m) → sum_below (outbox_bound N place s) m ≡ queue_bound N place s
  capacities_sum s m below =
      sum_swap (joins N place s) m (suc N.arcs)
      ∙ sum_same (λ b. sum_below (λ t. joins N place s t b) m) (touches N place s) (suc N.arcs)
      (λ b. sum_same (λ t. joins N place s t b) (λ t. seen_from s t (place (N.tail b)) (place (N.head b))) m (λ t. joins_seen s t (place (N.tail b)) (place (N.head b)))
      ∙ seen_sum s (place (N.tail b)) (place (N.head b)) m (below (N.tail b)) (below (N.head b)))

  -- the environment's arc is within the source's shard
  pub entry : (s t : ℕ) → N.tail 0 ≡ 0 → place (N.head 0) ≡ place 0 → joins N place s t 0 ≡ cond (eqb (place 0) s) (is t s) 0
  entry s t tz hz = joins_seen s t (place (N.tail 0)) (place (N.head 0)) ∙ (λ i. seen_from s t (place (tz i)) (hz i)) ∙ elim (cases_Bool (eqb (place 0) s)) [
    | inl p ↦ cond-true (eqb (place 0) s) (one_if (eqb (place 0) t)) (cond (eqb (place 0) s) (one_if (eqb (place 0) t)) 0) p
        ∙ ap (λ z. one_if (eqb z t)) (eqb-true (place 0) s p) ∙ turn s t ∙ sym (cond-true (eqb (place 0) s) (is t s) 0 p)
    | inr p ↦ cond-false (eqb (place 0) s) (one_if (eqb (place 0) t)) (cond (eqb (place 0) s) (one_if (eqb (place 0) t)) 0) p
        ∙ cond-false (eqb (place 0) s) (one_if (eqb (place 0) t)) 0 p ∙ sym (cond-false (eqb (place 0) s) (is t s) 0 p)
  ]

  -- no queue is wider than there are arcs
  pub queue_bound_most : (s : ℕ) → queue_bound N place s ≤ suc N.arcs
  queue_bound_most s = let m = sum_most (touches N place s) (λ b. 1) (suc N.arcs)
      (λ b. one_if-most (eqb (place (N.head b)) s || eqb (place (N.tail b)) s)) in let o = sum_ones (suc N.arcs) in omega (arith, m, o)

  -- there is a place for the environment's message
  pub queue_bound_first : (s : ℕ) → place (N.head 0) ≡ s → 1 ≤ queue_bound N place s
  queue_bound_first s e = let m = sum_term (touches N place s) 0 (suc N.arcs) (omega arith) in
      let o : touches N place s 0 ≡ 1 = ap (λ z. one_if (z || eqb (place (N.tail 0)) s)) (eq-eqb (place (N.head 0)) s e) in omega (arith, m, o)

-- A seat's claims: one more, one less, and how many there may be.
use Rattle.post_floor.proofs.Words.{◌≡◌, ◌≢◌, ℕ, ◌+◌, ◌*◌, ◌/◌, ◌%◌, ◌<◌, ◌≤◌, Bool, cond, eqb, List, [], ◌∷◌, length, map, drop, refl, sym, ap, ◌∙◌, subst, inl, inr, arith, eq-eqb, ne_eqb, cases_eq, rest, total, is, All, SetupData, sum_at, sum_zero, is_self, View, dest, origin, Slot, empty_slot, fill_claims, read_claims, Unclaimed, AreOpen, HasEnd}
use Rattle.std.proofs.Math.Nat.{div-add-mod, mod-lt}
use Rattle.scholten_core.specs.Sums.{sum_below}
use Rattle.scholten_core.proofs.Basics.{sum_most, sum_ones}
use Rattle.post_floor.proofs.Totals.{is_else}
use Rattle.post_floor.proofs.Opened.{pair_below}

-- numbers that f sends to different numbers below n, none twice, are at most n
module _ (f : ℕ → ℕ) (P : ℕ → Type 0) (apart : (x y : ℕ) → P x → P y → f x ≡ f y → x ≡ y) where
  none_there : (x : ℕ) (xs : List ℕ) → P x → All P xs → total (is x) xs ≡ 0 → total (λ y. is (f x) (f y)) xs ≡ 0
  none_there x [] p a z = refl
  none_there x (y ∷ ys) p a z = elim (cases_eq (f x) (f y)) [
    | inl e ↦ absurd (let q : is x x ≡ is x y = ap (is x) (apart x y p a.0 e) in let s = is_self x in omega (arith, q, s, z))
    | inr ne ↦ (let r = none_there x ys p a.1 (omega (arith, z)) in omega (arith, is_else (f x) (f y) ne, r))
  ]

  once_there : (j : ℕ) (xs : List ℕ) → All P xs → ((k : ℕ) → total (is k) xs ≤ 1) → total (λ y. is j (f y)) xs ≤ 1
  once_there j [] a once = omega arith
  once_there j (x ∷ xs) a once = elim (cases_eq j (f x)) [
    | inl e ↦ (let o = once x in let s = is_self x in
        let n : total (λ y. is j (f y)) xs ≡ 0 = ap (λ z. total (λ y. is z (f y)) xs) e ∙ none_there x xs a.0 a.1 (omega (arith, o, s)) in
        let m : is j (f x) ≡ is (f x) (f x) = ap (λ z. is z (f x)) e in let q = is_self (f x) in omega (arith, n, m, q))
    | inr ne ↦ (let r = once_there j xs a.1 (λ k. let o = once k in omega (arith, o)) in omega (arith, is_else j (f x) ne, r))
  ]

  scatter : (xs : List ℕ) (n : ℕ) → All (λ x. f x < n) xs → sum_below (λ j. total (λ y. is j (f y)) xs) n ≡ length xs
  scatter [] n a = sum_zero (λ _. 0) n (λ _. refl)
  scatter (x ∷ xs) n a =
      let p = sum_at (λ j. is j (f x) + total (λ y. is j (f y)) xs) (λ j. total (λ y. is j (f y)) xs) (f x) n a.0 (λ j ne. let z = is_else j (f x) ne in omega (arith, z)) in
      omega (arith, scatter xs n a.1, p, is_self (f x))

  pub at_most : (xs : List ℕ) (n : ℕ) → All P xs → All (λ x. f x < n) xs → ((k : ℕ) → total (is k) xs ≤ 1) → length xs ≤ n
  at_most xs n a b once = let m = sum_most (λ j. total (λ y. is j (f y)) xs) (λ _. 1) n (λ j. once_there j xs a once) in let o = sum_ones n in omega (arith, scatter xs n b, m, o)

-- the place of a mailbox among those with an end at the shard s: first those that come from it,
-- then the others
place : (n s k : ℕ) → ℕ
place n s k = cond (eqb (k / 4 / n) s) (k / 4 % n * 4 + k % 4) ((n + k / 4 / n) * 4 + k % 4)

module _ (n s : ℕ) where
  place_from : (k : ℕ) → k / 4 / n ≡ s → place n s k ≡ k / 4 % n * 4 + k % 4
  unfolding place
  place_from k e = ap (λ (b : Bool). cond b (k / 4 % n * 4 + k % 4) ((n + k / 4 / n) * 4 + k % 4)) (eq-eqb (k / 4 / n) s e)

  place_to : (k : ℕ) → k / 4 / n ≢ s → place n s k ≡ (n + k / 4 / n) * 4 + k % 4
  unfolding place
  place_to k ne = ap (λ (b : Bool). cond b (k / 4 % n * 4 + k % 4) ((n + k / 4 / n) * 4 + k % 4)) (ne_eqb (k / 4 / n) s ne)

  low_part : (k : ℕ) → k % 4 < 4
  low_part k = mod-lt k (omega arith)

  -- a mailbox is known by its ends and its slot
  rebuilt : (j k : ℕ) → j / 4 / n ≡ k / 4 / n → j / 4 % n ≡ k / 4 % n → j % 4 ≡ k % 4 → j ≡ k
  rebuilt j k o d l =
      let q : j / 4 ≡ k / 4 = sym (div-add-mod (j / 4) n) ∙ (λ i. n * o i + d i) ∙ div-add-mod (k / 4) n in
      sym (div-add-mod j 4) ∙ (λ i. 4 * q i + l i) ∙ div-add-mod k 4

  ends : (k : ℕ) → HasEnd n s k → (k / 4 / n < n) × (k / 4 % n < n) × (k / 4 / n ≢ s → k / 4 % n ≡ s)
  unfolding origin dest
  ends k (lt, h) = let b = pair_below n k lt in (b.0, b.1, λ ne. elim h [ inl e ↦ absurd (ne e) | inr e ↦ e ])

  place_low : (k : ℕ) → HasEnd n s k → place n s k < 8 * n
  place_low k h = let b = ends k h in let l = low_part k in elim (cases_eq (k / 4 / n) s) [
    | inl e ↦ (omega (arith, place_from k e, b.1, l))
    | inr ne ↦ (omega (arith, place_to k ne, b.0, l))
  ]

  place_apart : (j k : ℕ) → HasEnd n s j → HasEnd n s k → place n s j ≡ place n s k → j ≡ k
  place_apart j k hj hk e =
      let bj = ends j hj in let bk = ends k hk in let lj = low_part j in let lk = low_part k in
      elim (cases_eq (j / 4 / n) s) [
        | inl f ↦ (let p = place_from j f in elim (cases_eq (k / 4 / n) s) [
          | inl g ↦ (let q = place_from k g in rebuilt j k (f ∙ sym g) (omega (arith, p, q, e, lj, lk)) (omega (arith, p, q, e, lj, lk)))
          | inr ne ↦ absurd (omega (arith, p, place_to k ne, e, bj.1, lj, lk))
        ])
        | inr ne ↦ (let p = place_to j ne in elim (cases_eq (k / 4 / n) s) [
          | inl g ↦ absurd (let q = place_from k g in let d = bk.1 in omega (arith, p, q, e, d, lj, lk))
          | inr nk ↦ (let q = place_to k nk in rebuilt j k (omega (arith, p, q, e, lj, lk)) (bj.2 ne ∙ sym (bk.2 nk)) (omega (arith, p, q, e, lj, lk)))
        ])
      ]

  all_low : (xs : List ℕ) → All (HasEnd n s) xs → All (λ k. place n s k < 8 * n) xs
  all_low [] a = tt
  all_low (x ∷ xs) a = (place_low x a.0, all_low xs a.1)

module _ {S V : Type 0} (t : SetupData S) (s : ℕ) where
  pub few_claims : (v : View S V) (slots : List (ℕ × Slot V)) (claims : List ℕ) → AreOpen t s v slots claims → length claims ≤ 8 * t.plan.shards
  few_claims v slots claims o = at_most (place t.plan.shards s) (HasEnd t.plan.shards s) (place_apart t.plan.shards s) claims (8 * t.plan.shards) o.own (all_low t.plan.shards s claims o.own) o.once

  -- one mailbox more
  pub claims_more : (v w : View S V) (slots : List (ℕ × Slot V)) (claims : List ℕ) (k : ℕ) → AreOpen t s v slots claims → Unclaimed k v → HasEnd t.plan.shards s k →
      ((j : ℕ) → fill_claims j w + read_claims j w ≡ is j k + (fill_claims j v + read_claims j v)) → AreOpen t s w ((k, empty_slot t k) ∷ slots) (k ∷ claims)
  claims_more v w slots claims k o free end more = record {
    keys = ap (λ (z : List ℕ). k ∷ z) o.keys;
    empty = (refl, o.empty);
    open_now = λ j. omega (arith, o.open_now j, more j);
    once = λ j. elim (cases_eq j k) [
      | inl e ↦ (let f : is j k ≡ is k k = ap (λ z. is z k) e in let q = is_self k in let g : total (is j) claims ≡ total (is k) claims = ap (λ z. total (is z) claims) e in
          omega (arith, f, q, g, o.open_now k, free.0, free.1))
      | inr ne ↦ (omega (arith, is_else j k ne, o.once j))
    ];
    own = (end, o.own);
  }

  first_key : ℕ → List (ℕ × Slot V) → ℕ
  first_key d [] = d
  first_key d (x ∷ xs) = x.0

  -- one less
  pub claims_less : (v w : View S V) (slots : List (ℕ × Slot V)) (claims : List ℕ) (k : ℕ) (y : Slot V) → AreOpen t s v slots claims → slots ≡ (k, y) ∷ rest slots →
      ((j : ℕ) → is j k + (fill_claims j w + read_claims j w) ≡ fill_claims j v + read_claims j v) → AreOpen t s w (rest slots) (drop 1 claims)
  unfolding first_key
  claims_less v w [] claims k y o first less = absurd cc
  claims_less v w (x ∷ xs) claims k y o first less =
      let is_k : x.0 ≡ k = ap (first_key 0) first in
      let keys : map (λ z. z.0) (x ∷ xs) ≡ claims = o.keys in
      subst (λ (l : List ℕ). AreOpen t s w xs (drop 1 l)) keys (
      let o' : AreOpen t s v (x ∷ xs) (x.0 ∷ map (λ z. z.0) xs) = subst (AreOpen t s v (x ∷ xs)) (sym keys) o in record {
        keys = refl;
        empty = o'.empty.1;
        open_now = λ j. let f : is j x.0 ≡ is j k = ap (is j) is_k in omega (arith, o'.open_now j, less j, f);
        once = λ j. omega (arith, o'.once j);
        own = o'.own.1;
      })

  -- the slot that was taken last is empty
  pub first_empty : (v : View S V) (slots : List (ℕ × Slot V)) (claims : List ℕ) (k : ℕ) (y : Slot V) → AreOpen t s v slots claims
      → slots ≡ (k, y) ∷ rest slots → slots ≡ (k, empty_slot t k) ∷ rest slots
  unfolding first_key
  first_empty v [] claims k y o first = absurd cc
  first_empty v (x ∷ xs) claims k y o first = let is_k : x.0 ≡ k = ap (first_key 0) first in λ i. (is_k i, (o.empty.0 ∙ ap (empty_slot t) is_k) i) ∷ xs

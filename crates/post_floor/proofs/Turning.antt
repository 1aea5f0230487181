-- Claims that are turned round.
use Rattle.std.proofs.Common.{◌≡◌, ◌≢◌, ℕ, suc, ◌<◌, ◌≤◌, Bool, true, false, cond, eqb, List, [], ◌∷◌, ◌++◌, length, map, refl, sym, ap, ◌∙◌, subst, inl, inr, arith, eq-eqb, eqb-true, length-append}
use Rattle.post_floor.proofs.Words.{cases_eq, map_push, total, is, All, SetupData, total_append, all_append, View, Slot, empty_slot, cycled, before, first_is, AreOpen, HasEnd}
use Rattle.atomic_table.specs.Table.{rest, turned}
use Rattle.post_floor.proofs.Totals.{is_else}

pub cycled_total : {A : Type 0} (f : A → ℕ) (xs : List A) → total f (cycled xs) ≡ total f xs
cycled_total f [] = refl
cycled_total f (x ∷ xs) = omega (arith, total_append f xs (x ∷ []))

pub cycled_length : {A : Type 0} (xs : List A) → length (cycled xs) ≡ length xs
cycled_length [] = refl
cycled_length (x ∷ xs) = omega (arith, length-append xs (x ∷ []))

all_cycled : {A : Type 0} (P : A → Type 0) (xs : List A) → All P xs → All P (cycled xs)
all_cycled P [] a = tt
all_cycled P (x ∷ xs) a = all_append P xs (x ∷ []) a.1 (a.0, tt)

all_turned : {X : Type 0} (P : ℕ × X → Type 0) (xs : List (ℕ × X)) → All P xs → All P (turned xs)
all_turned P [] a = tt
all_turned P (x ∷ xs) a = all_append P xs (x ∷ []) a.1 (a.0, tt)

pub turned_keys : {X : Type 0} (xs : List (ℕ × X)) → map (λ x. x.0) (turned xs) ≡ cycled (map (λ x. x.0) xs)
turned_keys [] = refl
turned_keys (x ∷ xs) = map_push (λ x. x.0) xs x

before_last : (k x : ℕ) (xs : List ℕ) → 0 < total (is k) xs → before k (xs ++ x ∷ []) ≡ before k xs
before_last k x [] m = absurd (omega (arith, m))
before_last k x (y ∷ ys) m = elim (cases_eq y k) [
  | inl e ↦ ap (λ (b : Bool). cond b 0 (suc (before k (ys ++ x ∷ [])))) (eq-eqb y k e) ∙ sym (ap (λ (b : Bool). cond b 0 (suc (before k ys))) (eq-eqb y k e))
  | inr ne ↦ ap (λ (z : ℕ). cond (eqb y k) 0 (suc z)) (before_last k x ys (let z = is_else k y (λ e. ne (sym e)) in omega (arith, m, z)))
]

-- each turn brings the claim nearer
pub cycled_before : (k : ℕ) (xs : List ℕ) → 0 < total (is k) xs → first_is k xs ≡ false → before k (cycled xs) < before k xs
cycled_before k [] m f = absurd (omega (arith, m))
cycled_before k (x ∷ xs) m f =
    let ne : k ≢ x = λ e. let t : true ≡ false = sym (eq-eqb x k (sym e)) ∙ f in absurd cc in
    let p = before_last k x xs (omega (arith, m, is_else k x ne)) in
    let q : before k (x ∷ xs) ≡ suc (before k xs) = ap (λ (b : Bool). cond b 0 (suc (before k xs))) f in omega (arith, p, q)

pub first_here : {X : Type 0} (k : ℕ) (xs : List (ℕ × X)) → first_is k (map (λ x. x.0) xs) ≡ true → (y : X) × (xs ≡ (k, y) ∷ rest xs)
first_here k [] e = absurd cc
first_here k (x ∷ xs) e = (x.1, λ i. (eqb-true x.0 k e i, x.1) ∷ xs)

-- the same slots are out
pub turned_open : {S V : Type 0} (t : SetupData S) (s : ℕ) (v : View S V) (slots : List (ℕ × Slot V)) (claims : List ℕ) → AreOpen t s v slots claims → AreOpen t s v (turned slots) (cycled claims)
turned_open t s v slots claims o = record {
  keys = turned_keys slots ∙ ap cycled o.keys;
  empty = all_turned (λ x. x.1 ≡ empty_slot t x.0) slots o.empty;
  open_now = λ k. cycled_total (is k) claims ∙ o.open_now k;
  once = λ k. subst (λ (z : ℕ). z ≤ 1) (sym (cycled_total (is k) claims)) (o.once k);
  own = all_cycled (HasEnd t.plan.shards s) claims o.own;
}

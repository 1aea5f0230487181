-- Sums over lists and over numbers, where one member changes.
use Rattle.post_floor.proofs.Words.{◌≡◌, ◌≢◌, ℕ, zero, suc, ◌+◌, ◌<◌, ◌≤◌, Bool, cond, eqb, List, [], ◌∷◌, set, refl, sym, ap, ◌∙◌, subst, inl, inr, arith, eq-eqb, ne_eqb, cases_eq, some, some-injective, some-ne-none, get_elem?, one_if, total, is, is_self, without}

module _ {A : Type 0} where
  pub total_set : (f : A → ℕ) (vs : List A) (i : ℕ) (v w : A) → get_elem? vs i ≡ some v → total f (set vs i w) + f v ≡ total f vs + f w
  total_set f [] i v w e = absurd (some-ne-none v (sym e))
  total_set f (x ∷ xs) zero v w e = let p : f x ≡ f v = ap f (some-injective x v e) in omega (arith, p)
  total_set f (x ∷ xs) (suc i) v w e = omega (arith, total_set f xs i v w e)

  pub total_at : (f : A → ℕ) (vs : List A) (i : ℕ) (v : A) → get_elem? vs i ≡ some v → f v ≤ total f vs
  total_at f [] i v e = absurd (some-ne-none v (sym e))
  total_at f (x ∷ xs) zero v e = let p : f x ≡ f v = ap f (some-injective x v e) in omega (arith, p)
  total_at f (x ∷ xs) (suc i) v e = omega (arith, total_at f xs i v e)

  pub total_two : (f : A → ℕ) (vs : List A) (i j : ℕ) (v w : A) → i ≢ j → get_elem? vs i ≡ some v → get_elem? vs j ≡ some w → f v + f w ≤ total f vs
  total_two f [] i j v w ne e d = absurd (some-ne-none v (sym e))
  total_two f (x ∷ xs) zero zero v w ne e d = absurd (ne refl)
  total_two f (x ∷ xs) zero (suc j) v w ne e d = let p : f x ≡ f v = ap f (some-injective x v e) in let q = total_at f xs j w d in omega (arith, p, q)
  total_two f (x ∷ xs) (suc i) zero v w ne e d = let p : f x ≡ f w = ap f (some-injective x w d) in let q = total_at f xs i v e in omega (arith, p, q)
  total_two f (x ∷ xs) (suc i) (suc j) v w ne e d = let q = total_two f xs i j v w (λ s. ne (ap suc s)) e d in omega (arith, q)

  pub total_none : (f : A → ℕ) (vs : List A) → ((i : ℕ) (u : A) → get_elem? vs i ≡ some u → f u ≡ 0) → total f vs ≡ 0
  total_none f [] z = refl
  total_none f (x ∷ xs) z = let q = total_none f xs (λ i u a. z (suc i) u a) in omega (arith, z 0 x refl, q)

  pub total_alone : (f : A → ℕ) (vs : List A) (id : ℕ) (v : A) → get_elem? vs id ≡ some v → ((i : ℕ) (u : A) → i ≢ id → get_elem? vs i ≡ some u → f u ≡ 0) → total f vs ≡ f v
  total_alone f [] id v at z = absurd (some-ne-none v (sym at))
  total_alone f (x ∷ xs) zero v at z = let p : f x ≡ f v = ap f (some-injective x v at) in let q = total_none f xs (λ i u a. z (suc i) u (λ e. omega (arith, e)) a) in omega (arith, p, q)
  total_alone f (x ∷ xs) (suc id) v at z = let p = z 0 x (λ e. omega (arith, e)) refl in
      let q = total_alone f xs id v at (λ i u ne a. z (suc i) u (λ e. ne (omega (arith, e))) a) in omega (arith, p, q)

pub is_else : (j k : ℕ) → j ≢ k → is j k ≡ 0
is_else j k ne = ap one_if (ne_eqb j k ne)

pub is_one : (j k : ℕ) → 0 < is j k → j ≡ k
is_one j k h = elim (cases_eq j k) [ inl e ↦ e | inr ne ↦ absurd (omega (arith, is_else j k ne, h)) ]

without_cases : (k x : ℕ) (xs : List ℕ) (F : List ℕ → Type 0) → (k ≡ x → F xs) → (k ≢ x → F (x ∷ without k xs)) → F (cond (eqb k x) xs (x ∷ without k xs))
without_cases k x xs F same else' = elim (cases_eq k x) [
  | inl e ↦ subst (λ (b : Bool). F (cond b xs (x ∷ without k xs))) (sym (eq-eqb k x e)) (same e)
  | inr ne ↦ subst (λ (b : Bool). F (cond b xs (x ∷ without k xs))) (sym (ne_eqb k x ne)) (else' ne)
]

pub without_same : (k : ℕ) (xs : List ℕ) → 0 < total (is k) xs → total (is k) (without k xs) + 1 ≡ total (is k) xs
without_same k [] h = absurd (omega (arith, h))
without_same k (x ∷ xs) h = without_cases k x xs (λ (l : List ℕ). total (is k) l + 1 ≡ is k x + total (is k) xs)
    (λ e. let p : is k k ≡ is k x = ap (is k) e in let q = is_self k in omega (arith, p, q))
    (λ ne. let z = is_else k x ne in let r = without_same k xs (omega (arith, h, z)) in omega (arith, r, z))

pub without_else : (j k : ℕ) (xs : List ℕ) → j ≢ k → total (is j) (without k xs) ≡ total (is j) xs
without_else j k [] ne = refl
without_else j k (x ∷ xs) ne = without_cases k x xs (λ (l : List ℕ). total (is j) l ≡ is j x + total (is j) xs)
    (λ e. let z = is_else j x (λ q. ne (q ∙ sym e)) in omega (arith, z))
    (λ ne'. omega (arith, without_else j k xs ne))

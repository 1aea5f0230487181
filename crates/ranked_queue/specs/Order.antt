-- Entries by value, and if values tie by a number.
use Rattle.std.specs.Prelude.{◌≡◌, ℕ, ◌≤◌, ◌⊎◌, Bool, true, false, cond, leb, IsTrue}
use Rattle.std.specs.Ordering.{ordering_reverse, on}
use Rattle.std.specs.Cmp.{IsTotalOrder}
use Rattle.std.proofs.lemmas.Cmp.{on_total}
use Rattle.std.specs.declared.cmp.Ordering.{Ordering}
use Rattle.std.specs.declared.cmp.Ordering.TheVariants.{Less, Equal, Greater}
use Rattle.std.proofs.Common.{refl, ap, inl, inr, arith}
use Rattle.std.proofs.lemmas.Bool.{leb-true, le-leb}
use Rattle.std.proofs.lemmas.Bool.Decides.{leb_tells}
use Rattle.path_algebra.specs.Algebra.{IsOrder}
use Rattle.path_algebra.proofs.Least.{other_no_worse}
use Rattle.ranked_queue.specs.declared.ranked.Ranked.{Ranked}

-- a value is greater if it is better
abbrev pub value_cmp : {V : Type 0} → (V → V → Bool) → V → V → Ordering
value_cmp no_worse a b = cond (no_worse a b) (cond (no_worse b a) Equal Greater) Less

module _ {V : Type 0} (no_worse : V → V → Bool) (ordered : IsOrder no_worse) where
  antisymm_of : (p q : Bool) → IsTrue p ⊎ IsTrue q → cond p (cond q Equal Greater) Less ≡ ordering_reverse (cond q (cond p Equal Greater) Less)
  antisymm_of true true h = refl
  antisymm_of true false h = refl
  antisymm_of false true h = refl
  antisymm_of false false h = elim h [ inl e ↦ cc | inr e ↦ cc ]

  pub value_antisymm : (a b : V) → value_cmp no_worse a b ≡ ordering_reverse (value_cmp no_worse b a)
  value_antisymm a b = antisymm_of (no_worse a b) (no_worse b a) (ordered.total a b)

  less_of : (p q : Bool) → cond p (cond q Equal Greater) Less ≡ Less → p ≡ false
  less_of true true e = cc
  less_of true false e = cc
  less_of false q e = refl

  less_from : (p q : Bool) → p ≡ false → cond p (cond q Equal Greater) Less ≡ Less
  less_from p q e = rw e refl

  equal_of : (p q : Bool) → cond p (cond q Equal Greater) Less ≡ Equal → IsTrue p × IsTrue q
  equal_of true true e = (refl, refl)
  equal_of true false e = cc
  equal_of false q e = cc

  is_false : (b : Bool) → (b ≡ true → ⊥) → b ≡ false
  is_false true h = absurd (h refl)
  is_false false h = refl

  pub value_trans : (a b c : V) → value_cmp no_worse a b ≡ Less → value_cmp no_worse b c ≡ Less → value_cmp no_worse a c ≡ Less
  value_trans a b c e f =
      let x = less_of (no_worse a b) (no_worse b a) e in
      let y = less_of (no_worse b c) (no_worse c b) f in
      less_from (no_worse a c) (no_worse c a) (is_false (no_worse a c) (λ t.
      let u : no_worse a b ≡ true = ordered.transitive a c b t (other_no_worse no_worse ordered b c y) in cc))

  pub value_congr : (a b c : V) → value_cmp no_worse a b ≡ Equal → value_cmp no_worse a c ≡ value_cmp no_worse b c
  value_congr a b c e =
      let t = equal_of (no_worse a b) (no_worse b a) e in
      ap (λ (v : V). value_cmp no_worse v c) (ordered.antisymmetric a b t.0 t.1)

  pub value_total : IsTotalOrder (value_cmp no_worse)
  value_total = record { antisymm = value_antisymm; trans = value_trans; congr = value_congr }

-- no worse in value, and no greater in number if the values tie
abbrev pub by_number : {V : Type 0} → (V → V → Bool) → V × ℕ → V × ℕ → Bool
by_number no_worse a b = cond (no_worse a.0 b.0) (cond (no_worse b.0 a.0) (leb a.1 b.1) true) false

split : (p q r : Bool) → IsTrue (cond p (cond q r true) false) → IsTrue p × (IsTrue q → IsTrue r)
split true true r h = (refl, λ _. h)
split true false r h = (refl, λ k. cc)
split false q r h = cc

join : (p q r : Bool) → IsTrue p → (IsTrue q → IsTrue r) → IsTrue (cond p (cond q r true) false)
join true true r h k = k refl
join true false r h k = refl
join false q r h k = cc

either : (a b : ℕ) → (a ≤ b) ⊎ (b ≤ a)
either a b = elim (leb_tells a b) [ inl h ↦ inl h.1 | inr h ↦ (let l = h.1 in inr (omega (arith, l))) ]

module _ {V : Type 0} (no_worse : V → V → Bool) where
  -- what `by_number` says, in both directions
  pub told : (a b : V × ℕ) → IsTrue (by_number no_worse a b) → IsTrue (no_worse a.0 b.0) × (IsTrue (no_worse b.0 a.0) → a.1 ≤ b.1)
  told a b h =
      let s = split (no_worse a.0 b.0) (no_worse b.0 a.0) (leb a.1 b.1) h in
      (s.0, λ k. leb-true a.1 b.1 (s.1 k))

  pub tells : (a b : V × ℕ) → IsTrue (no_worse a.0 b.0) → (IsTrue (no_worse b.0 a.0) → a.1 ≤ b.1) → IsTrue (by_number no_worse a b)
  tells a b h k = join (no_worse a.0 b.0) (no_worse b.0 a.0) (leb a.1 b.1) h (λ t. le-leb a.1 b.1 (k t))

  module _ (ordered : IsOrder no_worse) where
    total_of : (p q : Bool) → IsTrue p ⊎ IsTrue q → (a b : ℕ) →
        IsTrue (cond p (cond q (leb a b) true) false) ⊎ IsTrue (cond q (cond p (leb b a) true) false)
    total_of true true h a b = elim (either a b) [ inl l ↦ inl (le-leb a b l) | inr l ↦ inr (le-leb b a l) ]
    total_of true false h a b = inl refl
    total_of false true h a b = inr refl
    total_of false false h a b = elim h [ inl e ↦ cc | inr e ↦ cc ]

    pub by_number_order : IsOrder (by_number no_worse)
    by_number_order = record {
      total = λ a b. total_of (no_worse a.0 b.0) (no_worse b.0 a.0) (ordered.total a.0 b.0) a.1 b.1;
      transitive = λ a b c h k.
          let s = told a b h in
          let t = told b c k in
          tells a c (ordered.transitive a.0 b.0 c.0 s.0 t.0) (λ back.
          let l = s.1 (ordered.transitive b.0 c.0 a.0 t.0 back) in
          let m = t.1 (ordered.transitive c.0 a.0 b.0 back s.0) in
          omega (arith, l, m));
      antisymmetric = λ a b h k.
          let s = told a b h in
          let t = told b a k in
          let first : a.0 ≡ b.0 = ordered.antisymmetric a.0 b.0 s.0 t.0 in
          let l = s.1 t.0 in
          let m = t.1 s.0 in
          let second : a.1 ≡ b.1 = omega (arith, l, m) in
          λ i. (first i, second i);
    }

-- entries by value, and if values tie the lesser rank is greater: equal only if both are equal
abbrev pub ranked_cmp : {K V : Type 0} → (K → V) → (K → ℕ) → (V → V → Bool) → K → K → Ordering
ranked_cmp value rank no_worse = on (λ o. (value o, rank o)) (value_cmp (by_number no_worse))

pub ranked_total : {K V : Type 0} (value : K → V) (rank : K → ℕ) (no_worse : V → V → Bool) → IsOrder no_worse → IsTotalOrder (ranked_cmp value rank no_worse)
ranked_total value rank no_worse ordered = on_total (λ o. (value o, rank o)) (value_total (by_number no_worse) (by_number_order no_worse ordered))

-- ranked entries by value, and if values tie by what numbers their ranks
abbrev pub ranked_order : {A K V : Type 0} → (K → ℕ) → (V → V → Bool) → Ranked A K V → Ranked A K V → Ordering
ranked_order number = ranked_cmp (λ o. o.value) (λ o. number o.rank)

pub ranked_order_total : {A K V : Type 0} (number : K → ℕ) (no_worse : V → V → Bool) → IsOrder no_worse → IsTotalOrder (ranked_order {A = A} number no_worse)
ranked_order_total number = ranked_total (λ o. o.value) (λ o. number o.rank)

-- Sums over items, by arcs.
use Rattle.shard_store.proofs.Words.{◌≡◌, ℕ, zero, suc, ◌+◌, ◌<◌, ◌≤◌, List, [], ◌∷◌, ◌++◌, refl, sym, ap, ◌∙◌, inl, inr, arith, ◌-◌, Bool, true, false, leb, Some, None, length, length-append, drop, Item, Network, sum_below, total, counted, is, IsPermutation}
use Rattle.std.proofs.lemmas.Bool.{cases_lt, leb-true, le-leb}
use Rattle.path_algebra.specs.Algebra.{Algebra}
use Rattle.scholten_core.specs.Items.{item_arc, at}
use Rattle.scholten_core.proofs.Items.{at-first, at-skip, at-nil}
use Rattle.std.specs.Prelude.{slice_get, sum_by}
use Rattle.std.proofs.lemmas.List.Sums.{sum_by-cons}
use Rattle.std.proofs.lemmas.List.Sorted.{sum_by-IsPermutation}
use Rattle.std.proofs.lemmas.Bool.Decides.{leb_tells}
pub use Rattle.scholten_core.proofs.Basics.{sum_below_same, sum_at, sum_zero}

pub total_append : {X : Type 0} (f : X → ℕ) (xs ys : List X) → total f (xs ++ ys) ≡ total f xs + total f ys
total_append f [] ys = omega arith
total_append f (x ∷ xs) ys = let p = total_append f xs ys in omega (arith, p)

total_is_sum : {X : Type 0} (f : X → ℕ) (xs : List X) → total f xs ≡ sum_by f xs
total_is_sum f [] = refl
total_is_sum f (x ∷ xs) = let p = total_is_sum f xs in let q = sum_by-cons f x xs in omega (arith, p, q)

-- lists with the same elements weigh the same
pub total_permutation : {X : Type 0} (f : X → ℕ) (xs ys : List X) → IsPermutation xs ys → total f xs ≡ total f ys
total_permutation f xs ys h = total_is_sum f xs ∙ sym (sum_by-IsPermutation f xs ys h) ∙ sym (total_is_sum f ys)

pub total_ones : {X : Type 0} (xs : List X) → total (λ _. 1) xs ≡ length xs
total_ones [] = refl
total_ones (x ∷ xs) = let e = total_ones xs in omega (arith, e)

pub length_permutation : {X : Type 0} (xs ys : List X) → IsPermutation xs ys → length xs ≡ length ys
length_permutation xs ys h = sym (total_ones xs) ∙ total_permutation (λ _. 1) xs ys h ∙ total_ones ys

-- where a sum is more than 0, so is one of its members
pub sum_member : (f : ℕ → ℕ) (n : ℕ) → 0 < sum_below f n → (k : ℕ) × (k < n) × (0 < f k)
sum_member f zero h = absurd (omega (arith, h))
sum_member f (suc n) h = elim (cases_lt 0 (f n)) [
  | inl l ↦ (n, (omega arith), l)
  | inr l ↦ (let r = sum_member f n (omega (arith, h, l)) in (r.0, (let p = r.1 in omega (arith, p)), r.2))
]

module _ {V : Type 0} (A : Algebra V) (N : Network) where
  -- the items of a list, arc by arc
  pub total_by_arc : (f : Item V → ℕ) (n : ℕ) (is : List (Item V)) → ((b : ℕ) → n ≤ b → at b is ≡ []) → total f is ≡ sum_below (λ b. total f (at b is)) n
  total_by_arc f n [] h = sym (sum_zero (λ b. total f (at b [])) n (λ b. ap (total f) (at-nil b)))
  total_by_arc f n (i ∷ is) h = elim (cases_lt (item_arc i) n) [
    | inr l ↦ absurd (let g = sym (at-first A N (item_arc i) i is refl) ∙ h (item_arc i) l in cc)
    | inl l ↦ (let rest = total_by_arc f n is (λ b m. sym (at-skip A N b i is (λ e. omega (arith, e, l, m))) ∙ h b m) in
        let differ = sum_at (λ b. total f (at b (i ∷ is))) (λ b. total f (at b is)) (item_arc i) n l (λ b ne. ap (total f) (at-skip A N b i is (λ e. ne (sym e)))) in
        let here : total f (at (item_arc i) (i ∷ is)) ≡ f i + total f (at (item_arc i) is) = ap (total f) (at-first A N (item_arc i) i is refl) in
        omega (arith, rest, differ, here))
  ]

pub none_of : (n : ℕ) → leb 1 n ≡ false → n ≡ 0
none_of n e = elim (leb_tells 1 n) [ inl t ↦ absurd (let q = sym e ∙ t.0 in cc) | inr f ↦ (let l = f.1 in omega (arith, l)) ]

-- what is dropped of two pieces
pub drop_pieces : {X : Type 0} (n m : ℕ) (one other : List X) → m ≡ n - length one → drop n one ++ drop m other ≡ drop n (one ++ other)
drop_pieces zero m [] other e = ap (λ k. drop k other) (let z : m ≡ 0 = omega (arith, e) in z)
drop_pieces (suc n) m [] other e = ap (λ k. drop k other) (let z : m ≡ suc n = omega (arith, e) in z)
drop_pieces zero m (x ∷ one) other e = ap (λ k. x ∷ one ++ drop k other) (let z : m ≡ 0 = omega (arith, e) in z)
drop_pieces (suc n) m (x ∷ one) other e = drop_pieces n m one other (omega (arith, e))

-- while a batch still has an item, there is room for it
pub append_room : {X : Type 0} (own other own_first other_first : List X) (x : X) (capacity first : ℕ) → own ++ other ≡ own_first ++ other_first
    → capacity ≡ first → length own_first + length other_first ≤ first → Some x ≡ slice_get other 0 → length own < capacity
append_room own [] own_first other_first x capacity first j c l h = absurd (let q : Some x ≡ None = h in cc)
append_room own (y ∷ other) own_first other_first x capacity first j c l h = let a = ap length j in let b = length-append own (y ∷ other) in
    let d = length-append own_first other_first in omega (arith, a, b, c, d, l)

module _ {V : Type 0} where
  -- an item on the arc is in a list of two pieces: in the one, or not there and in the other
  pub in_one : (b : ℕ) (one other all : List (Item V)) (x : Bool) → one ++ other ≡ all → x ≡ leb 1 (counted b one) → x ≡ true → x ≡ leb 1 (counted b all)
  in_one b one other all x e h t =
      let l = leb-true 1 (counted b one) (sym h ∙ t) in let a = total_append (λ j. is b (item_arc j)) one other in let q = ap (counted b) e in
      t ∙ sym (le-leb 1 (counted b all) (omega (arith, l, a, q)))

  pub in_other : (b : ℕ) (one other all : List (Item V)) (x y : Bool) → one ++ other ≡ all → x ≡ leb 1 (counted b one) → x ≡ false → y ≡ leb 1 (counted b other) → y ≡ leb 1 (counted b all)
  in_other b one other all x y e h f k =
      let z = none_of (counted b one) (sym h ∙ f) in let a = total_append (λ j. is b (item_arc j)) one other in let q = ap (counted b) e in
      k ∙ ap (leb 1) (omega (arith, z, a, q))

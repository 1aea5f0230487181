-- The elements of lists and options, and numbers that rise.
use Rattle.std.proofs.Common.{◌≡◌, Option, Some, sym, ◌∙◌, ℕ, zero, suc, ◌<◌, ◌⊎◌, inl, inr, List, [], ◌∷◌, length, get_or, refl, arith, ◌≤◌, Result, Ok, Err, ap, subst}
use Rattle.std.proofs.lemmas.Option.{same_Some}
use Rattle.road_graph.proofs.Words.{get_or_default, Contains, cases_lt, IsAscendingFrom}
use Rattle.std.proofs.Math.Nat.{eq-or-lt_of_le}
use Rattle.std.proofs.lemmas.List.Sorted.{searched}
use Rattle.std.specs.List.Sorted.{IsBinarySearchResult}
use Rattle.std.specs.Ordering.{nat_cmp}

-- an option holds one value at most
pub same_some : {X : Type 0} (o : Option X) (x y : X) → o ≡ Some x → o ≡ Some y → x ≡ y
same_some o x y e f = same_Some x y (sym e ∙ f)

pub not_in_empty : {X : Type 0} (x : X) → Contains [] x → ⊥
not_in_empty x h = let l : h.0 < 0 = h.1 in omega arith

pub here : {X : Type 0} (x : X) (rest : List X) → Contains (x ∷ rest) x
here x rest = (0, omega arith, refl)

pub here_as : {X : Type 0} (x head : X) (rest : List X) → x ≡ head → Contains (head ∷ rest) x
here_as x head rest e = (0, omega arith, sym e)

pub later : {X : Type 0} (head x : X) (rest : List X) → Contains rest x → Contains (head ∷ rest) x
later head x rest h = (suc h.0, (let l : h.0 < length rest = h.1 in omega arith), h.2)

pub head_or_tail : {X : Type 0} (head x : X) (rest : List X) → Contains (head ∷ rest) x → (head ≡ x) ⊎ Contains rest x
head_or_tail head x rest (zero, h, e) = inl e
head_or_tail head x rest (suc k, h, e) = inr (k, omega arith, e)

pub only_element : {X : Type 0} (only x : X) → Contains (only ∷ []) x → only ≡ x
only_element only x h = elim (head_or_tail only x [] h) [ inl same ↦ same | inr none ↦ absurd (not_in_empty x none) ]

-- the places are read with any default
pub element_place : {X : Type 0} (none x : X) (xs : List X) → Contains xs x → (j : ℕ) × (j < length xs) × (get_or xs j none ≡ x)
element_place none x xs (j, inside, e) = (j, inside, get_or_default xs j none x inside ∙ e)

pub above : (low : ℕ) (xs : List ℕ) (j : ℕ) → IsAscendingFrom low xs → j < length xs → low < get_or xs j 0
above low [] j h lt = absurd (omega arith)
above low (x ∷ xs) zero h lt = h.0
above low (x ∷ xs) (suc j) h lt = let more : x < get_or xs j 0 = above x xs j h.1 (omega arith) in omega (arith, more, h.0)

pub rises : (low : ℕ) (xs : List ℕ) (i j : ℕ) → IsAscendingFrom low xs → i < j → j < length xs → get_or xs i 0 < get_or xs j 0
rises low [] i j h lt within = absurd (omega arith)
rises low (x ∷ xs) i zero h lt within = absurd (omega arith)
rises low (x ∷ xs) zero (suc j) h lt within = above x xs j h.1 (omega arith)
rises low (x ∷ xs) (suc i) (suc j) h lt within = rises x xs i j h.1 (omega arith) (omega arith)

not_falling : (xs : List ℕ) → ((i j : ℕ) → i < j → j < length xs → get_or xs i 0 < get_or xs j 0) → (i j : ℕ) → i ≤ j → j < length xs → get_or xs i 0 ≤ get_or xs j 0
not_falling xs up i j le within = elim (eq-or-lt_of_le le) [
  | inl e ↦ let same = ap (λ k. get_or xs k 0) e in omega (arith, same)
  | inr less ↦ let more = up i j less within in omega (arith, more)
]

-- a binary search among numbers that rise finds one that is there
pub found : (xs : List ℕ) (x : ℕ) (r : Result ℕ ℕ) (at : ℕ) → ((i j : ℕ) → i < j → j < length xs → get_or xs i 0 < get_or xs j 0) → Contains xs x →
    IsBinarySearchResult (λ y. nat_cmp y x) xs r → (r ≡ Ok at) ⊎ (r ≡ Err at) → (at < length xs) × (get_or xs at 0 ≡ x)
found xs x r at up has h (inl e) = searched xs x (Ok at) (subst (IsBinarySearchResult (λ y. nat_cmp y x) xs) e h) (not_falling xs up)
found xs x r at up has h (inr e) =
    let parted = searched xs x (Err at) (subst (IsBinarySearchResult (λ y. nat_cmp y x) xs) e h) (not_falling xs up) in
    let place = element_place 0 x xs has in
    let read = place.2 in
    absurd (elim (cases_lt place.0 at) [
      | inl before ↦ let less = parted.1 place.0 before in omega (arith, less, read)
      | inr behind ↦ let more = parted.2 place.0 behind place.1 in omega (arith, more, read)
    ])

pub listed_above : (low : ℕ) (xs : List ℕ) (a : ℕ) → IsAscendingFrom low xs → Contains xs a → low < a
listed_above low xs a h x = let read : get_or xs x.0 0 ≡ a = get_or_default xs x.0 0 a x.1 ∙ x.2 in let more = above low xs x.0 h x.1 in omega (arith, read, more)

-- rising lists of the same numbers are one list
pub same_rising : (low : ℕ) (xs ys : List ℕ) → IsAscendingFrom low xs → IsAscendingFrom low ys →
    ((a : ℕ) → Contains xs a → Contains ys a) → ((a : ℕ) → Contains ys a → Contains xs a) → xs ≡ ys
same_rising low [] [] up rise there back = refl
same_rising low [] (y ∷ ys) up rise there back = absurd (not_in_empty y (back y (here y ys)))
same_rising low (x ∷ xs) [] up rise there back = absurd (not_in_empty x (there x (here x xs)))
same_rising low (x ∷ xs) (y ∷ ys) up rise there back =
    let same : x ≡ y = elim (head_or_tail y x ys (there x (here x xs))) [
      | inl e ↦ sym e
      | inr after ↦ elim (head_or_tail x y xs (back y (here y ys))) [
        | inl e ↦ e
        | inr behind ↦ let less : y < x = listed_above y ys x rise.1 after in let more : x < y = listed_above x xs y up.1 behind in absurd (omega (arith, less, more))
      ]
    ] in
    let rest : xs ≡ ys = same_rising x xs ys up.1 (subst (λ low. IsAscendingFrom low ys) (sym same) rise.1)
    (λ a in_xs. elim (head_or_tail y a ys (there a (later x a xs in_xs))) [
      | inl e ↦ let more : x < a = listed_above x xs a up.1 in_xs in absurd (omega (arith, more, e, same))
      | inr in_ys ↦ in_ys
    ])
    (λ a in_ys. elim (head_or_tail x a xs (back a (later y a ys in_ys))) [
      | inl e ↦ let more : y < a = listed_above y ys a rise.1 in_ys in absurd (omega (arith, more, e, same))
      | inr in_xs ↦ in_xs
    ]) in
    ap (λ z. z ∷ xs) same ∙ ap (λ (zs : List ℕ). y ∷ zs) rest

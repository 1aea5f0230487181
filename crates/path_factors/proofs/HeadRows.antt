-- Heads in rows of links, and in rows that are packed.
use Rattle.std.proofs.lemmas.List.Sorted.{IsNonDecreasingBy-from_all_adjacent}
use Rattle.std.proofs.Common.{◌≡◌, ℕ, zero, suc, ◌+◌, ◌-◌, ◌<◌, ◌≤◌, inl, inr, false, Result, Ok, Err, List, [], ◌∷◌, length, take, drop, get_or, map, refl, ap, sym, ◌∙◌, subst, arith}
use Rattle.std.specs.Prelude.{◌↔◌, Contains, IsTrue, is_ok, slice_range}
use Rattle.std.specs.List.Sorted.{IsBinarySearchResult, IsStrictlyIncreasing}
use Rattle.std.specs.Ordering.{nat_cmp}
use Rattle.std.proofs.lemmas.Bool.{cases_lt}
use Rattle.std.proofs.lemmas.List.{get_or_default, get_or-map, length-map}
use Rattle.std.proofs.lemmas.List.Sorted.{searched}
use Rattle.std.proofs.lemmas.List.Kept.{AllPairs-from_increasing}
use Rattle.road_graph.proofs.Lists.{not_in_empty, here, later, head_or_tail}
use Rattle.path_factors.specs.declared.link.Link.{Link}
use Rattle.path_factors.specs.Factors.{row_of}
use Rattle.path_factors.specs.Edges.{AreAligned}
use Rattle.path_factors.specs.Heads.{AreAhead, AreHeads, IsHead, heads_in}
use Rattle.path_factors.specs.Packing.{links_of, rows_between}

-- numbers that rise
pub rises_between : (xs : List ℕ) → IsStrictlyIncreasing xs → (i j : ℕ) → i < j → j < length xs → get_or xs i 0 < get_or xs j 0
rises_between xs up i j less lt = AllPairs-from_increasing xs up i j 0 less lt

-- the first is the least
pub first_is_least : (xs : List ℕ) → IsStrictlyIncreasing xs → (y : ℕ) → Contains xs y → get_or xs 0 0 ≤ y
first_is_least xs up y (zero, lt, is) = let e = get_or_default xs zero 0 y lt ∙ is in omega (arith, e)
first_is_least xs up y (suc k, lt, is) =
    let less = rises_between xs up 0 (suc k) (omega arith) lt in
    omega (arith, get_or_default xs (suc k) 0 y lt ∙ is, less)

-- numbers of which none is less than the one before
pub not_falling : (xs : List ℕ) → ((k : ℕ) → k + 1 < length xs → get_or xs k 0 ≤ get_or xs (k + 1) 0) → (i j : ℕ) → i ≤ j → j < length xs →
    get_or xs i 0 ≤ get_or xs j 0
not_falling xs rises i j le lt =
    IsNonDecreasingBy-from_all_adjacent (λ (n : ℕ). n) xs (λ k d low.
    let one = get_or_default xs k 0 d (omega (arith, low)) in
    omega (arith, rises k low, one, get_or_default xs (k + 1) 0 d low)) i j 0 le lt

-- a binary search finds a number exactly if it is there
pub listed_by_search : (xs : List ℕ) (x : ℕ) (r : Result ℕ ℕ) → IsStrictlyIncreasing xs → IsBinarySearchResult (λ y. nat_cmp y x) xs r →
    IsTrue (is_ok r) ↔ Contains xs x
listed_by_search xs x (Ok i) up is =
    let at = searched xs x (Ok i) is (not_falling xs (λ k low. omega (arith, up k low))) in
    (λ yes. (i, at.0, get_or_default xs i x 0 at.0 ∙ at.1), λ c. refl)
listed_by_search xs x (Err i) up is =
    let at = searched xs x (Err i) is (not_falling xs (λ k low. omega (arith, up k low))) in (
      λ (never : IsTrue false). absurd (cc),
      λ c.
          let read = get_or_default xs c.0 0 x c.1 ∙ c.2 in
          elim (cases_lt c.0 i) [
            | inl before ↦ let less = at.1 c.0 before in absurd (omega (arith, read, less))
            | inr after ↦ let more = at.2 c.0 after c.1 in absurd (omega (arith, read, more))
          ],
    )

-- where two lists that rise have the same number, later ones that they share come later in both
pub seek_more : (xs ys : List ℕ) → IsStrictlyIncreasing xs → IsStrictlyIncreasing ys → (q j : ℕ) → q < length xs → get_or xs q 0 ≡ get_or ys j 0 →
    (p m : ℕ) → j + 1 ≤ p → p < length ys → m < length xs → get_or xs m 0 ≡ get_or ys p 0 → q + 1 ≤ m
seek_more xs ys up also q j inside same p m after lt low is =
    let two = rises_between ys also j p (omega (arith, after)) lt in
    elim (cases_lt q m) [
      | inl past ↦ omega (arith, past)
      | inr not_past ↦ elim (cases_lt m q) [
        | inl less ↦ let one = rises_between xs up m q less inside in absurd (omega (arith, one, two, same, is))
        | inr not_before ↦
            let at_q : m ≡ q = omega (arith, not_past, not_before) in
            let one = ap (λ (k : ℕ). get_or xs k 0) at_q in
            absurd (omega (arith, one, two, same, is))
      ]
    ]

module _ {W : Type 0} where
  pub heads_row : (rows : List (List (Link W))) (i : ℕ) → row_of (heads_in rows) i ≡ map (λ (k : Link W). k.place) (row_of rows i)
  heads_row [] i = refl
  heads_row (r ∷ rows) zero = refl
  heads_row (r ∷ rows) (suc i) = heads_row rows i

  pub heads_count : (rows : List (List (Link W))) → length (heads_in rows) ≡ length rows
  heads_count [] = refl
  heads_count (r ∷ rows) = let n = heads_count rows in omega (arith, n)

  pub row_heads_count : (rows : List (List (Link W))) (i : ℕ) → length (row_of (heads_in rows) i) ≡ length (row_of rows i)
  row_heads_count rows i = ap length (heads_row rows i) ∙ length-map (row_of rows i) (λ (k : Link W). k.place)

  -- the head of an edge
  pub head_at : (rows : List (List (Link W))) (v j : ℕ) (k : Link W) → j < length (row_of rows v) → get_or (row_of rows v) j k ≡ k →
      get_or (row_of (heads_in rows) v) j 0 ≡ k.place
  head_at rows v j k lt is =
      ap (λ (r : List ℕ). get_or r j 0) (heads_row rows v)
      ∙ get_or-map (λ (k : Link W). k.place) (row_of rows v) j k 0 lt
      ∙ ap (λ (l : Link W). l.place) is

  place_in : (row : List (Link W)) (k : Link W) → Contains row k → Contains (map (λ (k : Link W). k.place) row) k.place
  place_in [] k c = absurd (not_in_empty k c)
  place_in (l ∷ row) k c = elim (head_or_tail l k row c) [
    | inl is ↦
        subst (λ (q : Link W). Contains (l.place ∷ map (λ (k : Link W). k.place) row) q.place) is
        (here l.place (map (λ (k : Link W). k.place) row))
    | inr rest ↦ later l.place k.place (map (λ (k : Link W). k.place) row) (place_in row k rest)
  ]

  -- the place of a link is a head
  pub head_of_link : (rows : List (List (Link W))) (v : ℕ) (k : Link W) → Contains (row_of rows v) k → IsHead (heads_in rows) v k.place
  head_of_link rows v k c = subst (λ (r : List ℕ). Contains r k.place) (sym (heads_row rows v)) (place_in (row_of rows v) k c)

  -- rows with the same heads are aligned
  pub aligned_of_heads : (leaving entering : List (List (Link W))) → heads_in entering ≡ heads_in leaving → AreAligned leaving entering
  aligned_of_heads leaving entering same i =
      sym (heads_row leaving i) ∙ ap (λ (h : List (List ℕ)). row_of h i) (sym same) ∙ heads_row entering i

-- the places of links
module _ {X Y : Type 0} (f : X → Y) where
  map-take : (n : ℕ) (xs : List X) → map f (take n xs) ≡ take n (map f xs)
  map-take zero xs = refl
  map-take (suc n) [] = refl
  map-take (suc n) (x ∷ xs) = ap (λ (l : List Y). f x ∷ l) (map-take n xs)

  map-drop : (n : ℕ) (xs : List X) → map f (drop n xs) ≡ drop n (map f xs)
  map-drop zero xs = refl
  map-drop (suc n) [] = refl
  map-drop (suc n) (x ∷ xs) = map-drop n xs

  map-part : (xs : List X) (s e : ℕ) → map f (slice_range xs s e) ≡ slice_range (map f xs) s e
  map-part xs s e = map-take (e - s) (drop s xs) ∙ ap (λ (l : List Y). take (e - s) l) (map-drop s xs)

  map-rows : (starts : List ℕ) (xs : List X) → map (λ (row : List X). map f row) (rows_between starts xs) ≡ rows_between starts (map f xs)
  map-rows [] xs = refl
  map-rows (s ∷ []) xs = refl
  map-rows (s ∷ e ∷ starts) xs =
      ap (λ (row : List Y). row ∷ map (λ (row : List X). map f row) (rows_between (e ∷ starts) xs)) (map-part xs s e)
      ∙ ap (λ (rows : List (List Y)). slice_range (map f xs) s e ∷ rows) (map-rows (e ∷ starts) xs)

pub places-links : {W : Type 0} (places : List ℕ) (walks : List W) → length walks ≡ length places → map (λ (k : Link W). k.place) (links_of places walks) ≡ places
places-links [] walks n = refl
places-links (p ∷ places) [] n = absurd (omega (arith, n))
places-links (p ∷ places) (a ∷ walks) n = ap (λ (l : List ℕ). p ∷ l) (places-links places walks (omega (arith, n)))

-- the heads of rows that are packed are their places
pub heads_packed : {W : Type 0} (starts places : List ℕ) (walks : List W) → length walks ≡ length places →
    heads_in (rows_between starts (links_of places walks)) ≡ rows_between starts places
heads_packed {W = W} starts places walks n =
    map-rows (λ (k : Link W). k.place) starts (links_of places walks)
    ∙ ap (λ (l : List ℕ). rows_between starts l) (places-links places walks n)

-- the edge between the ends of edge i of a place and of edge j, after it
module _ (n : ℕ) (heads : List (List ℕ)) (are : AreHeads n heads) (v i j : ℕ) (after : i < j) (lt : j < length (row_of heads v)) where
  abbrev near : ℕ
  near = get_or (row_of heads v) i 0

  abbrev far : ℕ
  far = get_or (row_of heads v) j 0

  near_head : IsHead heads v near
  near_head = let low : i < length (row_of heads v) = omega (arith, after, lt) in (i, low, get_or_default (row_of heads v) i near 0 low)

  pub near_inside : near < n
  near_inside = (are.rising v near near_head).1

  pub seek_between : (q : ℕ) → AreAhead heads v i j q → (m : ℕ) × (q ≤ m) × (m < length (row_of heads near)) × (get_or (row_of heads near) m 0 ≡ far)
  seek_between q ahead =
      let at = are.nested v near far near_head (j, lt, get_or_default (row_of heads v) j far 0 lt) (rises_between (row_of heads v) (are.ascending v) i j after lt) in
      let is : get_or (row_of heads near) at.0 0 ≡ far = get_or_default (row_of heads near) at.0 0 far at.1 ∙ at.2 in
      (at.0, ahead j at.0 (omega arith) lt at.1 is, at.1, is)

  pub ahead_more : (q : ℕ) → q < length (row_of heads near) → get_or (row_of heads near) q 0 ≡ far → AreAhead heads v i (j + 1) (q + 1)
  ahead_more q inside same = seek_more (row_of heads near) (row_of heads v) (are.ascending near) (are.ascending v) q j inside same

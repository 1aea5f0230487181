-- Rows that are packed one after the other.
use Rattle.path_factors.proofs.Words.{◌≡◌, ℕ, zero, suc, ◌+◌, ◌-◌, ◌<◌, ◌≤◌, inl, inr, List, [], ◌∷◌, ◌++◌, length, take, drop, get_or, refl, ap, sym, ◌∙◌, subst, arith, cases_lt, not_in_empty, Link, row_of, LinkRows, links_of, rows_between, ArePacked, ArePackedBothWays, packed_rows}
use Rattle.std.specs.Prelude.{All, Contains, slice_range}
use Rattle.std.proofs.lemmas.List.{get_or_default, length-drop, length-take-le, get_or-take, get_or-drop, take-append-le, drop-append-le, take_all, get_or_past, get_or_append_left, get_or_push, length-append}
use Rattle.std.proofs.lemmas.List.Elements.{All-nil, All-take, All-drop}
use Rattle.std.proofs.Math.ListN.{drop_of_length-le}

module _ {W : Type 0} where
  pub links_count : (places : List ℕ) (walks : List W) → length walks ≡ length places → length (links_of places walks) ≡ length places
  links_count [] walks n = refl
  links_count (p ∷ places) [] n = absurd (omega (arith, n))
  links_count (p ∷ places) (a ∷ walks) n =
      let rest = links_count places walks (omega (arith, n)) in
      omega (arith, rest)

  -- one more link
  pub links-push : (places : List ℕ) (walks : List W) (p : ℕ) (a : W) → length walks ≡ length places →
      links_of (places ++ p ∷ []) (walks ++ a ∷ []) ≡ links_of places walks ++ record { place = p; walk = a } ∷ []
  links-push [] [] p a n = refl
  links-push [] (b ∷ walks) p a n = absurd (omega (arith, n))
  links-push (q ∷ places) [] p a n = absurd (omega (arith, n))
  links-push (q ∷ places) (b ∷ walks) p a n = ap (λ (l : List (Link W)). record { place = q; walk = b } ∷ l) (links-push places walks p a (omega (arith, n)))

  -- the link at an index
  pub link_at : (places : List ℕ) (walks : List W) (k : ℕ) (p : ℕ) (a : W) (d : Link W) → length walks ≡ length places → k < length places →
      p ≡ get_or places k p → a ≡ get_or walks k a → get_or (links_of places walks) k d ≡ record { place = p; walk = a }
  link_at [] walks k p a d n lt is at = absurd (omega (arith, lt))
  link_at (q ∷ places) [] k p a d n lt is at = absurd (omega (arith, n))
  link_at (q ∷ places) (b ∷ walks) zero p a d n lt is at = λ i. record { place = (sym is) i; walk = (sym at) i }
  link_at (q ∷ places) (b ∷ walks) (suc k) p a d n lt is at = link_at places walks k p a d (omega (arith, n)) (omega (arith, lt)) is at

module _ {X : Type 0} where
  pub rows_count : (starts : List ℕ) (items : List X) → length (rows_between starts items) ≡ length starts - 1
  rows_count [] items = refl
  rows_count (s ∷ []) items = refl
  rows_count (s ∷ e ∷ starts) items =
      omega (arith, rows_count (e ∷ starts) items)

  -- no row past the last
  pub row_past : (rows : List (List X)) (i : ℕ) → length rows ≤ i → row_of rows i ≡ []
  row_past rows i le = get_or_past rows i [] le

  -- what is in a row has a row
  pub inside_rows : (rows : List (List X)) (i : ℕ) (x : X) → Contains (row_of rows i) x → i < length rows
  inside_rows rows i x c = elim (cases_lt i (length rows)) [
    | inl low ↦ low
    | inr high ↦ absurd (not_in_empty x (subst (λ (r : List X). Contains r x) (row_past rows i high) c))
  ]

  -- what is true of each item is true in each row
  pub row_all : (P : X → Type 0) (starts : List ℕ) (items : List X) → All P items → (i : ℕ) → All P (row_of (rows_between starts items) i)
  row_all P [] items all i = All-nil P
  row_all P (s ∷ []) items all i = All-nil P
  row_all P (s ∷ e ∷ starts) items all zero = All-take P (e - s) (drop s items) (All-drop P s items all)
  row_all P (s ∷ e ∷ starts) items all (suc i) = row_all P (e ∷ starts) items all i

  -- a row lies between its start and the next
  pub row_between : (starts : List ℕ) (items : List X) (i : ℕ) → i + 1 < length starts →
      row_of (rows_between starts items) i ≡ slice_range items (get_or starts i 0) (get_or starts (i + 1) 0)
  row_between [] items i lt = absurd (omega arith)
  row_between (s ∷ []) items i lt = absurd (omega arith)
  row_between (s ∷ e ∷ starts) items zero lt = refl
  row_between (s ∷ e ∷ starts) items (suc i) lt =
      let more : suc i + 1 ≡ suc (i + 1) = omega arith in
      row_between (e ∷ starts) items i (omega arith)
      ∙ ap (λ (j : ℕ). slice_range items (get_or (e ∷ starts) i 0) (get_or (s ∷ e ∷ starts) j 0)) (sym more)

  -- a part is the same in a longer list
  part_before : (items row : List X) (s e : ℕ) → s ≤ e → e ≤ length items → slice_range (items ++ row) s e ≡ slice_range items s e
  part_before items row s e le inside =
      ap (λ (l : List X). take (e - s) l) (drop-append-le s items row (omega (arith, le, inside)))
      ∙ take-append-le (e - s) (drop s items) row (omega (arith, length-drop s items, le, inside))

  -- the part after a list
  part_after : (items row : List X) → slice_range (items ++ row) (length items) (length items + length row) ≡ row
  part_after items row =
      let less : (length items + length row) - length items ≡ length row = omega arith in
      ap (λ (n : ℕ). take n (drop (length items) (items ++ row))) less
      ∙ ap (λ (l : List X). take (length row) l)
      (drop-append-le (length items) items row (omega arith) ∙ ap (λ (l : List X). l ++ row) (drop_of_length-le items (omega arith)))
      ∙ take_all (length row) row (omega arith)

  pub packed_more : (starts : List ℕ) (items row : List X) → ArePacked starts items →
      rows_between (starts ++ (length items + length row) ∷ []) (items ++ row) ≡ rows_between starts items ++ row ∷ []
  packed_more [] items row packed = let some = packed.some in absurd (omega (arith, some))
  packed_more (s ∷ []) items row packed =
      let last : s ≡ length items = packed.last in
      ap (λ (n : ℕ). slice_range (items ++ row) n (length items + length row) ∷ []) last
      ∙ ap (λ (r : List X). r ∷ []) (part_after items row)
  packed_more (s ∷ e ∷ starts) items row packed =
      let first : s ≤ e = packed.rising 0 (omega arith) in
      let within : e ≤ length items = packed.inside 1 (omega arith) in
      let tail : ArePacked (e ∷ starts) items = record {
        some = omega arith;
        rising = λ i lt.
            let more : suc i + 1 ≡ suc (i + 1) = omega arith in
            let here = packed.rising (suc i) (omega (arith, lt)) in
            rw more at here;
        inside = λ i lt. packed.inside (suc i) (omega (arith, lt));
        last =
            let size : length (s ∷ e ∷ starts) - 1 ≡ suc (length (e ∷ starts) - 1) = omega arith in
            rw size at packed.last;
      } in
      ap (λ (r : List X). r ∷ rows_between (e ∷ starts ++ (length items + length row) ∷ []) (items ++ row)) (part_before items row s e first within)
      ∙ ap (λ (rows : List (List X)). slice_range items s e ∷ rows) (packed_more (e ∷ starts) items row tail)

-- one more row, after those there are
pub packed_push : {X : Type 0} (starts : List ℕ) (items row : List X) → ArePacked starts items →
    ArePacked (starts ++ (length items + length row) ∷ []) (items ++ row)
packed_push starts items row packed =
    let m : ℕ = length items + length row in
    let n : length (starts ++ m ∷ []) ≡ length starts + 1 = length-append starts (m ∷ []) in
    let size : length (items ++ row) ≡ m = length-append items row in
    let some = packed.some in
    let old : (i : ℕ) → i < length starts → get_or (starts ++ m ∷ []) i 0 ≡ get_or starts i 0 = λ i lt. get_or_append_left starts (m ∷ []) 0 i lt in
    let new : (i : ℕ) → i ≡ length starts → get_or (starts ++ m ∷ []) i 0 ≡ m = λ i e. get_or_push starts m 0 i (sym e) in
    record {
      some = omega (arith, n);
      rising = λ i lt. elim (cases_lt (i + 1) (length starts)) [
        | inl low ↦
            let one = old i (omega (arith, low)) in
            omega (arith, packed.rising i low, one, old (i + 1) low)
        | inr high ↦
            let is : i + 1 ≡ length starts = omega (arith, high, lt, n) in
            let one = old i (omega (arith, is)) in
            let le = packed.inside i (omega (arith, is)) in
            omega (arith, one, new (i + 1) is, le)
      ];
      inside = λ i lt. elim (cases_lt i (length starts)) [
        | inl low ↦ let one = old i low in let le = packed.inside i low in omega (arith, one, le, size)
        | inr high ↦ let one = new i (omega (arith, high, lt, n)) in omega (arith, one, size)
      ];
      last =
          let is : length (starts ++ m ∷ []) - 1 ≡ length starts = omega (arith, n) in
          let e = ap (λ (i : ℕ). get_or (starts ++ m ∷ []) i 0) is ∙ new (length starts) refl in
          omega (arith, e, size);
    }

-- the same of items that are known
pub pushed : {X : Type 0} (starts : List ℕ) (items row all : List X) (end : ℕ) → ArePacked starts items → all ≡ items ++ row → end ≡ length all →
    ArePacked (starts ++ end ∷ []) all × (rows_between (starts ++ end ∷ []) all ≡ rows_between starts items ++ row ∷ [])
pushed {X} starts items row all end packed is size =
    let e : end ≡ length items + length row = size ∙ ap length is ∙ length-append items row in (
      subst (λ (m : ℕ). ArePacked (starts ++ m ∷ []) all) (sym e)
          (subst (λ (l : List X). ArePacked (starts ++ (length items + length row) ∷ []) l) (sym is) (packed_push starts items row packed)),
      ap (λ (m : ℕ). rows_between (starts ++ m ∷ []) all) e ∙ ap (λ (l : List X). rows_between (starts ++ (length items + length row) ∷ []) l) is
          ∙ packed_more starts items row packed,
    )

-- a row is as long as its part
pub row_count : {X : Type 0} (starts : List ℕ) (items : List X) → ArePacked starts items → (i : ℕ) → i + 1 < length starts →
    length (row_of (rows_between starts items) i) ≡ get_or starts (i + 1) 0 - get_or starts i 0
row_count starts items packed i lt =
    let s = get_or starts i 0 in
    let within = packed.inside (i + 1) lt in
    let n = length-drop s items in
    ap length (row_between starts items i lt) ∙ length-take-le ((get_or starts (i + 1) 0) - s) (drop s items) (omega (arith, n, packed.rising i lt, within))

-- a link of a row, in the whole list
pub row_link : {X : Type 0} (starts : List ℕ) (items : List X) → ArePacked starts items → (i : ℕ) → i + 1 < length starts →
    (j : ℕ) → j < length (row_of (rows_between starts items) i) → (d : X) →
    get_or (row_of (rows_between starts items) i) j d ≡ get_or items (get_or starts i 0 + j) d
row_link starts items packed i lt j low d =
    let s = get_or starts i 0 in
    ap (λ (r : List _). get_or r j d) (row_between starts items i lt)
    ∙ get_or-take ((get_or starts (i + 1) 0) - s) (drop s items) j d (omega (arith, row_count starts items packed i lt, low)) ∙ get_or-drop s items j d

-- the same starts serve other items, of which there are as many
pub packed_as : {X Y : Type 0} (starts : List ℕ) (items : List X) (others : List Y) → length others ≡ length items → ArePacked starts items → ArePacked starts others
packed_as starts items others n packed = record {
  some = packed.some;
  rising = packed.rising;
  inside = λ i lt. let le = packed.inside i lt in omega (arith, le, n);
  last = let is = packed.last in omega (arith, is, n);
}

pub packed_links : {W : Type 0} (starts places : List ℕ) (walks : List W) → length walks ≡ length places → ArePacked starts places →
    ArePacked starts (links_of places walks)
packed_links starts places walks n packed = packed_as starts places (links_of places walks) (links_count places walks n) packed

-- the row of a place in packed rows, if s is where it begins
module _ {W : Type 0} {starts places : List ℕ} {leaving entering : List W} (packed : ArePackedBothWays starts places leaving entering)
    {rows : LinkRows W} (view : packed_rows starts places leaving entering ≡ rows) (i : ℕ) (inside : i < length rows.leaving) where
  pub row_inside : i + 1 < length starts
  row_inside =
      let low : i < length (rows_between starts (links_of places leaving)) = subst (λ (l : LinkRows W). i < length l.leaving) (sym view) inside in
      omega (arith, low, rows_count starts (links_of places leaving), packed.packed.some)

  -- an edge has a link each way
  pub falls_too : (j : ℕ) → j < length (row_of rows.leaving i) → j < length (row_of rows.entering i)
  falls_too j low =
      let up = row_count starts (links_of places leaving) (packed_links starts places leaving packed.fields.leaving_count packed.packed) i row_inside in
      let down = row_count starts (links_of places entering) (packed_links starts places entering packed.fields.entering_count packed.packed) i row_inside in
      omega (arith, low, up, down, ap (λ (l : LinkRows W). length (row_of l.leaving i)) view, ap (λ (l : LinkRows W). length (row_of l.entering i)) view)

  -- with the links of either list of walks
  module _ (s : ℕ) (begins : s ≡ get_or starts i s) where
    pub start_is : s ≡ get_or starts i 0
    start_is = begins ∙ get_or_default starts i s 0 (omega (arith, row_inside))

    -- where they are seen as a side
    module _ (walks : List W) (n : length walks ≡ length places) {side : List (List (Link W))} (seen : rows_between starts (links_of places walks) ≡ side)
        (j : ℕ) (low : j < length (row_of side i)) where
      pub index_inside : j < length (row_of (rows_between starts (links_of places walks)) i)
      index_inside = subst (λ (l : List (List (Link W))). j < length (row_of l i)) (sym seen) low

      pub link_inside : s + j < length places
      link_inside =
          let size = row_count starts (links_of places walks) (packed_links starts places walks n packed.packed) i row_inside in
          omega (arith, index_inside, start_is, size, packed.packed.rising i row_inside, packed.packed.inside (i + 1) row_inside)

      pub link_in_row : (p : ℕ) (a : W) (d : Link W) → p ≡ get_or places (s + j) p → a ≡ get_or walks (s + j) a →
          get_or (row_of side i) j d ≡ record { place = p; walk = a }
      link_in_row p a d is at =
          ap (λ (l : List (List (Link W))). get_or (row_of l i) j d) (sym seen)
          ∙ row_link starts (links_of places walks) (packed_links starts places walks n packed.packed) i row_inside j index_inside d
          ∙ ap (λ (k : ℕ). get_or (links_of places walks) (k + j) d) (sym start_is)
          ∙ link_at places walks (s + j) p a d n link_inside is at

-- A link of packed rows is replaced, and rows without walks.
use Rattle.path_factors.proofs.Words.{◌≡◌, ℕ, zero, suc, ◌+◌, ◌-◌, ◌<◌, ◌≤◌, ◌⊎◌, inl, inr, Bool, true, false, Contains, cases_eq, get_or_past, get_or-set_same, get_or-set_other, length-set, heads_packed, is_on, row_heads_count, AreBlanked, IsBlankedTo, IsReplaced, List, [], ◌∷◌, length, take, drop, get_or, set, refl, ap, sym, ◌∙◌, subst, arith, All, cases_lt, Algebra, IsOrder, Composition, IsComposition, GraphData, Link, Edge, ArePlaces, FactorData, Falls, IsLinkUnder, IsWorthUnder, Rises, row_of, IsImproved, AreImproved, IsBegun, LinkRows, AreBlank, AreEdgesImproved, better_walk, rising, falling, links_of, rows_between, ArePacked, ArePackedBothWays, packed_rows, AreHeads, IsHead, heads_in}
use Rattle.std.proofs.lemmas.List.{get_or_default, drop-set-lt, drop-set-add, take-set-le}
use Rattle.std.proofs.lemmas.List.Elements.{All-nil, All-cons, All-head, All-tail, All-contains}
use Rattle.std.proofs.Math.Seq.{take-set-lt}
use Rattle.path_factors.proofs.Improving.{improved_better}
use Rattle.path_factors.proofs.Connecting.{sound_of, worth_of_none}
use Rattle.path_factors.proofs.HeadRows.{not_falling, head_at, heads_count, head_of_link}
use Rattle.path_factors.proofs.Packing.{link_at, rows_count, row_past, row_all, row_between, row_count, row_link, packed_links, row_inside, falls_too, start_is, index_inside, link_inside, link_in_row}

module _ {W : Type 0} where
  -- a walk is replaced
  pub links-set : (places : List ℕ) (walks : List W) (k p : ℕ) (a : W) → length walks ≡ length places → k < length places →
      p ≡ get_or places k p → links_of places (set walks k a) ≡ set (links_of places walks) k (record { place = p; walk = a })
  links-set [] walks k p a n lt is = absurd (omega (arith, lt))
  links-set (q ∷ places) [] k p a n lt is = absurd (omega (arith, n))
  links-set (q ∷ places) (b ∷ walks) zero p a n lt is = λ i. record { place = (sym is) i; walk = a } ∷ links_of places walks
  links-set (q ∷ places) (b ∷ walks) (suc k) p a n lt is =
      ap (λ (l : List (Link W)). record { place = q; walk = b } ∷ l) (links-set places walks k p a (omega (arith, n)) (omega (arith, lt)) is)

  module _ (starts : List ℕ) (links : List (Link W)) (packed : ArePacked starts links) (i : ℕ) (lt : i + 1 < length starts)
      (j : ℕ) (low : j < length (row_of (rows_between starts links) i)) (l : Link W) where
    abbrev s : ℕ
    s = get_or starts i 0

    abbrev e : ℕ
    e = get_or starts (i + 1) 0

    abbrev after : List (Link W)
    after = set links (s + j) l

    within : j < e - s
    within = let n = row_count starts links packed i lt in omega (arith, n, low)

    pub set_row : row_of (rows_between starts after) i ≡ set (row_of (rows_between starts links) i) j l
    set_row =
        row_between starts after i lt
        ∙ ap (λ (r : List (Link W)). take (e - s) r) (drop-set-add s links j l)
        ∙ take-set-lt (e - s) (drop s links) j l within
        ∙ ap (λ (r : List (Link W)). set r j l) (sym (row_between starts links i lt))

    pub set_others : (q : ℕ) → (q ≡ i → ⊥) → row_of (rows_between starts after) q ≡ row_of (rows_between starts links) q
    set_others q other = elim (cases_lt (q + 1) (length starts)) [
      | inr high ↦
          let m = rows_count starts after in
          row_past (rows_between starts after) q (omega (arith, m, high)) ∙ sym (row_past (rows_between starts links) q (omega (arith, rows_count starts links, high)))
      | inl inside ↦
          let f = get_or starts q 0 in
          let t = get_or starts (q + 1) 0 in
          row_between starts after q inside
          ∙ (elim (cases_lt q i) [
            | inl before ↦
                let le = not_falling starts packed.rising (q + 1) i (omega (arith, before)) (omega (arith, lt)) in
                let up = packed.rising q inside in
                let split : f + ((s + j) - f) ≡ s + j = omega (arith, le, up) in
                ap (λ (k : ℕ). take (t - f) (drop f (set links k l))) (sym split)
                ∙ ap (λ (r : List (Link W)). take (t - f) r) (drop-set-add f links ((s + j) - f) l)
                ∙ take-set-le (t - f) (drop f links) ((s + j) - f) l (omega (arith, le, up))
            | inr not_before ↦
                let le = not_falling starts packed.rising (i + 1) q (omega (arith, not_before, other)) (omega (arith, inside)) in
                ap (λ (r : List (Link W)). take (t - f) r) (drop-set-lt f links (s + j) l (omega (arith, le, within)))
          ])
          ∙ sym (row_between starts links q inside)
    ]

    pub set_count : length (rows_between starts after) ≡ length (rows_between starts links)
    set_count = rows_count starts after ∙ sym (rows_count starts links)

    -- with the better of both walks at the link
    pub set_improved : {V : Type 0} (C : Composition V W) → IsOrder C.no_worse → (k old : Link W) →
        old ≡ get_or links (s + j) old → old.place ≡ k.place → l ≡ record { place = k.place; walk = better_walk C old.walk k.walk } →
        AreImproved C (rows_between starts links) i k (rows_between starts after)
    set_improved C ordered k old is leads new =
        let row = row_of (rows_between starts links) i in
        let read : old ≡ get_or row j old = is ∙ sym (row_link starts links packed i lt j low old) in
        let here : row_of (rows_between starts after) i ≡ set row j (record { place = k.place; walk = better_walk C old.walk k.walk }) =
        set_row ∙ ap (λ (q : Link W). set row j q) new in
        record {
          count = set_count;
          row = subst (λ (r : List (Link W)). IsImproved C row k r) (sym here) (improved_better C ordered row k j old low read leads);
          others = set_others;
        }

  -- the same walk at each link
  blank_links : (places : List ℕ) (walks : List W) (none : W) → All (λ (a : W). a ≡ none) walks → All (λ (k : Link W). k.walk ≡ none) (links_of places walks)
  blank_links [] walks none all = All-nil (λ (k : Link W). k.walk ≡ none)
  blank_links (p ∷ places) [] none all = All-nil (λ (k : Link W). k.walk ≡ none)
  blank_links (p ∷ places) (a ∷ walks) none all =
      All-cons (λ (k : Link W). k.walk ≡ none) (record { place = p; walk = a }) (links_of places walks)
      (All-head (λ (a : W). a ≡ none) a walks all)
      (blank_links places walks none (All-tail (λ (a : W). a ≡ none) a walks all))

  pub blank : (starts places : List ℕ) (walks : List W) (none : W) → All (λ (a : W). a ≡ none) walks →
      AreBlank none (rows_between starts (links_of places walks))
  blank starts places walks none all i k c =
      All-contains (λ (k : Link W). k.walk ≡ none) (row_of (rows_between starts (links_of places walks)) i) k
      (row_all (λ (k : Link W). k.walk ≡ none) starts (links_of places walks) (blank_links places walks none all) i) c

-- links at heads that are worth walks
pub begun_of : {V W : Type 0} (A : Algebra V) (C : Composition V W) (g : GraphData) (F : FactorData W) → ArePlaces g.vertices F.order F.places →
    AreHeads g.vertices (heads_in F.leaving) → heads_in F.entering ≡ heads_in F.leaving →
    ((x y : ℕ) (a : W) → Rises F x y a → IsLinkUnder A C g F x x y a) → ((x y : ℕ) (a : W) → Falls F x y a → IsLinkUnder A C g F y x y a) → IsBegun A C g F
begun_of A C g F are heads same rising falling = record {
  ordering = are;
  links = record {
    leaving_count = sym (heads_count F.leaving) ∙ heads.count;
    entering_count = sym (heads_count F.entering) ∙ ap length same ∙ heads.count;
    rising = λ x y a h. heads.rising x y (head_of_link F.leaving x (record { place = y; walk = a }) h);
    falling = λ x y a h.
        heads.rising y x (subst (λ (r : List (List ℕ)). IsHead r y x) same (head_of_link F.entering y (record { place = x; walk = a }) h));
    sound = sound_of A C g F rising falling;
  };
  rising = rising;
  falling = falling;
}

-- links without walks are worth walks
pub begun_blank : {V W : Type 0} (A : Algebra V) (C : Composition V W) → IsComposition A C → (g : GraphData) (order places : List ℕ) → ArePlaces g.vertices order places →
    (rows : LinkRows W) → AreHeads g.vertices (heads_in rows.leaving) → heads_in rows.entering ≡ heads_in rows.leaving →
    AreBlank C.no_walk rows.leaving → AreBlank C.no_walk rows.entering →
    IsBegun A C g (record { order = order; places = places; leaving = rows.leaving; entering = rows.entering })
begun_blank {W = W} A C composes g order places are rows heads same risers fallers =
    let F : FactorData W = record { order = order; places = places; leaving = rows.leaving; entering = rows.entering } in
    let none : (x u v : ℕ) → IsWorthUnder A C g (heads_in rows.leaving) places x u v C.no_walk = worth_of_none A C g (heads_in rows.leaving) places composes in
    begun_of A C g F are heads same
    (λ x y a h. subst (λ (w : W). IsLinkUnder A C g F x x y w) (sym (risers x (record { place = y; walk = a }) h)) (none x (get_or order x 0) (get_or order y 0)))
    (λ x y a h. subst (λ (w : W). IsLinkUnder A C g F y x y w) (sym (fallers y (record { place = x; walk = a }) h)) (none y (get_or order x 0) (get_or order y 0)))

module _ {W : Type 0} {starts places : List ℕ} {leaving entering : List W} (packed : ArePackedBothWays starts places leaving entering)
    {rows : LinkRows W} (view : packed_rows starts places leaving entering ≡ rows) (i : ℕ) (inside : i < length rows.leaving)
    (s : ℕ) (begins : s ≡ get_or starts i s) where
  -- a link of either side, if s is where its row begins
  module _ (walks : List W) (n : length walks ≡ length places) {side : List (List (Link W))} (seen : rows_between starts (links_of places walks) ≡ side)
      (j : ℕ) (index : j < length (row_of side i)) where
    abbrev links : List (Link W)
    links = links_of places walks

    low : j < length (row_of (rows_between starts links) i)
    low = index_inside packed view i inside s begins walks n seen j index

    at : s + j < length places
    at = link_inside packed view i inside s begins walks n seen j index

    links_after : (p : ℕ) (a : W) → p ≡ get_or places (s + j) p → links_of places (set walks (s + j) a) ≡ set links (get_or starts i 0 + j) (record { place = p; walk = a })
    links_after p a is =
        links-set places walks (s + j) p a n at is ∙ ap (λ (q : ℕ). set links (q + j) (record { place = p; walk = a })) (start_is packed view i inside s begins)

    -- its walk is made no worse
    walk_improved : {V : Type 0} (C : Composition V W) → IsOrder C.no_worse → (k : Link W) → k.place ≡ get_or places (s + j) k.place →
        (a : W) → a ≡ get_or walks (s + j) a → (c : W) → c ≡ better_walk C a k.walk →
        AreImproved C side i k (rows_between starts (links_of places (set walks (s + j) c)))
    walk_improved C ordered k to a is_a c is_c =
        let old : Link W = record { place = k.place; walk = a } in
        let new : Link W = record { place = k.place; walk = better_walk C a k.walk } in
        let read : old ≡ get_or links (s + j) old = sym (link_at places walks (s + j) k.place a old n at to is_a) in
        subst (λ (r : List (List (Link W))). AreImproved C r i k (rows_between starts (links_of places (set walks (s + j) c)))) seen
        (subst (λ (q : List (Link W)). AreImproved C (rows_between starts links) i k (rows_between starts q))
        (sym (links_after k.place (better_walk C a k.walk) to) ∙ ap (λ (w : W). links_of places (set walks (s + j) w)) (sym is_c))
        (set_improved starts links (packed_links starts places walks n packed.packed) i (row_inside packed view i inside) j low new C ordered k old
        (read ∙ ap (λ (q : ℕ). get_or links (q + j) old) (start_is packed view i inside s begins)) refl refl))

    -- its walk is replaced
    pub walk_replaced : (a : W) → IsReplaced a i j side (rows_between starts (links_of places (set walks (s + j) a)))
    walk_replaced a =
        let p = get_or places (s + j) 0 in
        let l : Link W = record { place = p; walk = a } in
        let lt = row_inside packed view i inside in
        let pk = packed_links starts places walks n packed.packed in
        let is = ap (rows_between starts) (links_after p a (get_or_default places (s + j) 0 p at)) in
        let row = ap (λ (r : List (List (Link W))). row_of r i) is ∙ set_row starts links pk i lt j low l in
        let m = length-set walks (s + j) a in
        subst (λ (r : List (List (Link W))). IsReplaced a i j r (rows_between starts (links_of places (set walks (s + j) a)))) seen (record {
          heads = heads_packed starts places (set walks (s + j) a) (omega (arith, m, n)) ∙ sym (heads_packed starts places walks n);
          others = λ q other. ap (λ (r : List (List (Link W))). row_of r q) is ∙ set_others starts links pk i lt j low l q other;
          here = λ d. ap (λ (r : List (Link W)). (get_or r j d).walk) row ∙ ap (λ (k : Link W). k.walk) (get_or-set_same (row_of (rows_between starts links) i) j l d low);
          rest = λ q d other. ap (λ (r : List (Link W)). get_or r q d) row ∙ get_or-set_other (row_of (rows_between starts links) i) j q l d other;
        })

  -- both links of an edge are made no worse
  pub edge_improved : {V : Type 0} (C : Composition V W) → IsOrder C.no_worse → (j : ℕ) → j < length (row_of rows.leaving i) →
      (e : Edge W) → get_or (row_of (heads_in rows.leaving) i) j 0 ≡ e.place → (a b : W) → a ≡ get_or leaving (s + j) a → b ≡ get_or entering (s + j) b →
      (c d : W) → c ≡ better_walk C a e.leaving → d ≡ better_walk C b e.entering →
      AreEdgesImproved C rows i e (packed_rows starts places (set leaving (s + j) c) (set entering (s + j) d))
  edge_improved C ordered j index e head a b is_a is_b c d is_c is_d =
      let l = packed.fields.leaving_count in
      let up : rows_between starts (links_of places leaving) ≡ rows.leaving = λ k. (view k).leaving in
      let down : rows_between starts (links_of places entering) ≡ rows.entering = λ k. (view k).entering in
      let low : s + j < length places = link_inside packed view i inside s begins leaving l up j index in
      let P = get_or places (s + j) 0 in
      let old : Link W = record { place = P; walk = a } in
      let riser : get_or (row_of rows.leaving i) j old ≡ old =
      link_in_row packed view i inside s begins leaving l up j index P a old (get_or_default places (s + j) 0 P low) is_a in
      let to : P ≡ e.place = sym (head_at rows.leaving i j old index riser) ∙ head in
      let is_e : e.place ≡ get_or places (s + j) e.place = sym to ∙ get_or_default places (s + j) 0 e.place low in
      record {
        leaving = walk_improved leaving l up j index C ordered (rising e) is_e a is_a c is_c;
        entering = walk_improved entering packed.fields.entering_count down j (falls_too packed view i inside j index) C ordered (falling e) is_e b is_b d is_d;
      }

module _ {W : Type 0} (none : W) (i : ℕ) (F : List (List (Link W))) where
  pub blanked_none : IsBlankedTo none i 0 F F
  blanked_none = record { heads = refl; others = λ q other. refl; blank = λ m k low. absurd (omega (arith, low)) }

  pub blanked_more : (j : ℕ) (G H : List (List (Link W))) → IsBlankedTo none i j F G → IsReplaced none i j G H → IsBlankedTo none i (j + 1) F H
  blanked_more j G H done more = record {
    heads = more.heads ∙ done.heads;
    others = λ q other. more.others q other ∙ done.others q other;
    blank = λ m k low. elim (cases_eq m j) [
      | inl is ↦ ap (λ (q : ℕ). (get_or (row_of H i) q k).walk) is ∙ more.here k
      | inr other ↦ ap (λ (l : Link W). l.walk) (more.rest m k other) ∙ done.blank m k (omega (arith, low, other))
    ];
  }

  -- a row keeps its length
  pub row_kept : (G : List (List (Link W))) → heads_in G ≡ heads_in F → length (row_of G i) ≡ length (row_of F i)
  row_kept G same = sym (row_heads_count G i) ∙ ap (λ (h : List (List ℕ)). length (row_of h i)) same ∙ row_heads_count F i

  pub rows_kept : (G : List (List (Link W))) → heads_in G ≡ heads_in F → length G ≡ length F
  rows_kept G same = sym (heads_count G) ∙ ap length same ∙ heads_count F

-- the first k rows have no walks if they are marked, and the others are the same
pub record BlankedTo {W : Type 0} (none : W) (marks : List Bool) (F G : List (List (Link W))) (k : ℕ) : Type 0 where
  pub heads : heads_in G ≡ heads_in F
  pub rest : (i : ℕ) → (is_on marks i ≡ false) ⊎ (k ≤ i) → row_of G i ≡ row_of F i
  pub blank : (i : ℕ) (l : Link W) → is_on marks i ≡ true → i < k → Contains (row_of G i) l → l.walk ≡ none

module _ {W : Type 0} (none : W) (marks : List Bool) (F : List (List (Link W))) where
  pub rows_none : BlankedTo none marks F F 0
  rows_none = record { heads = refl; rest = λ i h. refl; blank = λ i l on low c. absurd (omega (arith, low)) }

  pub rows_unmarked : (k : ℕ) (G : List (List (Link W))) → BlankedTo none marks F G k → is_on marks k ≡ false → BlankedTo none marks F G (k + 1)
  rows_unmarked k G done off = record {
    heads = done.heads;
    rest = λ i h. elim h [
      | inl not ↦ done.rest i (inl not)
      | inr past ↦ done.rest i (inr (omega (arith, past)))
    ];
    blank = λ i l on low c. elim (cases_eq i k) [
      | inl is ↦ let bad : true ≡ false = sym on ∙ ap (is_on marks) is ∙ off in absurd (cc)
      | inr other ↦ done.blank i l on (omega (arith, low, other)) c
    ];
  }

  pub rows_marked : (k n : ℕ) (G H : List (List (Link W))) → BlankedTo none marks F G k → is_on marks k ≡ true → IsBlankedTo none k n G H →
      length (row_of G k) ≤ n → BlankedTo none marks F H (k + 1)
  rows_marked k n G H done on more all = record {
    heads = more.heads ∙ done.heads;
    rest = λ i h. elim h [
      | inl off ↦ more.others i (λ is. let bad : true ≡ false = sym on ∙ ap (is_on marks) (sym is) ∙ off in absurd (cc)) ∙ done.rest i (inl off)
      | inr past ↦ more.others i (λ is. omega (arith, past, is)) ∙ done.rest i (inr (omega (arith, past)))
    ];
    blank = λ i l is_marked low c. elim (cases_eq i k) [
      | inl is ↦
          let here : Contains (row_of H k) l = subst (λ (q : ℕ). Contains (row_of H q) l) is c in
          let size = row_kept none k G H more.heads in
          ap (λ (q : Link W). q.walk) (sym here.2) ∙ more.blank here.0 l (omega (arith, here.1, size, all))
      | inr other ↦ done.blank i l is_marked (omega (arith, low, other)) (subst (λ (r : List (Link W)). Contains r l) (more.others i other) c)
    ];
  }

  pub rows_all : (k : ℕ) (G : List (List (Link W))) → BlankedTo none marks F G k → length marks ≤ k → AreBlanked none marks F G
  rows_all k G done all = record {
    heads = done.heads;
    rest = λ i off. done.rest i (inl off);
    blank = λ i l on c. elim (cases_lt i (length marks)) [
      | inl low ↦ done.blank i l on (omega (arith, low, all)) c
      | inr past ↦ let bad : true ≡ false = sym on ∙ get_or_past marks i false (omega (arith, past)) in absurd (cc)
    ];
  }

-- Back substitution at the ancestors of a place, from those that are known down.
use Rattle.path_factors.proofs.Words.{IsStrictlyIncreasing, ◌≡◌, ℕ, ◌+◌, ◌<◌, ◌≤◌, ◌⊎◌, inl, inr, List, [], ◌∷◌, ◌++◌, length, set, get_or, Bool, true, false, Option, None, refl, ap, sym, ◌∙◌, subst, arith, get_or-set_same, get_or-set_other, length-set, All, Contains, cases_eq, cases_lt, get_or_default, get_or_past, get_or_append_left, get_or_push, length-append, GraphData, Algebra, Composition, Link, FactorData, IsFactor, AreLinks, row_of, at, best_along, AreHeads, IsHead, AreAtHeads, IsTreeParent, is_on, IsBackRun, Agree, IsKnownUpward, AreUnknownUp, AreAllUnknownUp, AreFound}
use Rattle.path_factors.proofs.HeadRows.{rises_between}
use Rattle.path_factors.proofs.Backward.{best_along_same}
use Rattle.path_factors.proofs.Trees.{parent_inside}

-- place i is found, and the others are as they were
module _ {V W : Type 0} (A : Algebra V) (C : Composition V W) (g : GraphData) (F : FactorData W) (links : AreLinks A C g F)
    (before all : List (Option V)) (run : IsBackRun A C g.vertices F before all) (labels : List (Option V)) (known : List Bool)
    (agree : Agree g.vertices before all labels known) (i : ℕ) (low : i < g.vertices)
    (n : length labels ≡ g.vertices) (m : length known ≡ g.vertices) (fresh : is_on known i ≡ false)
    (ready : (k : Link W) → Contains (row_of F.entering i) k → is_on known k.place ≡ true) where
  abbrev row : List (Link W)
  row = row_of F.entering i

  abbrev best : Option V
  best = best_along A C labels (at labels i) row

  same : (k : Link W) → Contains row k → at labels k.place ≡ at all k.place
  same k h = agree.done k.place (links.falling k.place i k.walk h).1 (ready k h)

  value : best ≡ at all i
  value =
      best_along_same A C labels all row (at labels i) same
      ∙ ap (λ (o : Option V). best_along A C all o row) (agree.left i low fresh) ∙ sym (run.best i low)

  label_here : at (set labels i best) i ≡ at all i
  label_here = get_or-set_same labels i best None (omega (arith, low, n)) ∙ value

  mark_here : is_on (set known i true) i ≡ true
  mark_here = get_or-set_same known i true false (omega (arith, low, m))

  pub found_at : Agree g.vertices before all (set labels i best) (set known i true)
  found_at = record {
    done = λ j in_j k. elim (cases_eq j i) [
      | inl e ↦ subst (λ (p : ℕ). at (set labels i best) p ≡ at all p) (sym e) label_here
      | inr other ↦
          get_or-set_other labels i j best None other ∙ agree.done j in_j (sym (get_or-set_other known i j true false other) ∙ k)
    ];
    left = λ j in_j k. elim (cases_eq j i) [
      | inl e ↦ let bad : true ≡ false = sym mark_here ∙ ap (is_on (set known i true)) (sym e) ∙ k in absurd (cc)
      | inr other ↦
          get_or-set_other labels i j best None other ∙ agree.left j in_j (sym (get_or-set_other known i j true false other) ∙ k)
    ];
  }

module _ (heads : List (List ℕ)) (n : ℕ) (known : List Bool) (t : ℕ) where
  pub unknown_none : AreUnknownUp heads n known t [] t
  unknown_none = record {
    first = refl;
    inside = λ q lt. absurd (omega (arith, lt));
    fresh = λ q lt. absurd (omega (arith, lt));
    parents = λ q lt. absurd (omega (arith, lt));
  }

  pub unknown_more : (list : List ℕ) (v p : ℕ) → AreUnknownUp heads n known t list v → v < n → is_on known v ≡ false →
      IsTreeParent heads n v p → AreUnknownUp heads n known t (list ++ v ∷ []) p
  unknown_more list v p up low off parent =
      let m : length (list ++ v ∷ []) ≡ length list + 1 = length-append list (v ∷ []) in
      let old : (q : ℕ) → q < length list → get_or (list ++ v ∷ []) q p ≡ get_or list q v = λ q lt. get_or_append_left list (v ∷ []) p q lt ∙ get_or_default list q p v lt in
      let new : (q : ℕ) → q ≡ length list → get_or (list ++ v ∷ []) q p ≡ v = λ q e. get_or_push list v p q (sym e) in
      let last : (q : ℕ) → q < length (list ++ v ∷ []) → length list ≤ q → q ≡ length list =
      λ q lt past. omega (arith, lt, m, past) in
      record {
        first = elim (cases_lt 0 (length list)) [
          | inl some ↦ old 0 some ∙ up.first
          | inr none ↦
              let is : 0 ≡ length list = omega (arith, none) in
              new 0 is ∙ sym (get_or_past list 0 v none) ∙ up.first
        ];
        inside = λ q lt. elim (cases_lt q (length list)) [
          | inl before ↦ let is = old q before in let h = up.inside q before in omega (arith, is, h)
          | inr past ↦ let is = new q (last q lt past) in omega (arith, is, low)
        ];
        fresh = λ q lt. elim (cases_lt q (length list)) [
          | inl before ↦ ap (is_on known) (old q before) ∙ up.fresh q before
          | inr past ↦ ap (is_on known) (new q (last q lt past)) ∙ off
        ];
        parents = λ q lt. elim (cases_lt q (length list)) [
          | inl before ↦
              let next : get_or (list ++ v ∷ []) (q + 1) p ≡ get_or list (q + 1) v = elim (cases_lt (q + 1) (length list)) [
                | inl within ↦ old (q + 1) within
                | inr past ↦
                    let is : q + 1 ≡ length list = omega (arith, before, past) in
                    new (q + 1) is ∙ sym (get_or_past list (q + 1) v past)
              ] in
              subst (λ (x : ℕ). IsTreeParent heads n (get_or (list ++ v ∷ []) q p) x) (sym next)
              (subst (λ (x : ℕ). IsTreeParent heads n x (get_or list (q + 1) v)) (sym (old q before)) (up.parents q before))
          | inr past ↦
              let is = last q lt past in
              let end : get_or (list ++ v ∷ []) (q + 1) p ≡ p = get_or_past (list ++ v ∷ []) (q + 1) p (omega (arith, m, is)) in
              subst (λ (x : ℕ). IsTreeParent heads n (get_or (list ++ v ∷ []) q p) x) (sym end)
              (subst (λ (x : ℕ). IsTreeParent heads n x p) (sym (new q is)) parent)
        ];
      }

  pub unknown_inside : (list : List ℕ) (v : ℕ) → AreUnknownUp heads n known t list v → All (λ i. i < n) list
  unknown_inside list v up q d lt =
      omega (arith, up.inside q lt, get_or_default list q d v lt)

-- the places from index k of the list on are found
pub record AreFoundFrom {V : Type 0} (heads : List (List ℕ)) (n : ℕ) (before all : List (Option V)) (old : List Bool) (list : List ℕ) (k : ℕ)
    (labels : List (Option V)) (known : List Bool) : Type 0 where
  pub labels_count : length labels ≡ n
  pub known_count : length known ≡ n
  pub agree : Agree n before all labels known
  pub upward : IsKnownUpward heads known
  pub listed : (j : ℕ) → is_on known j ≡ true → (is_on old j ≡ true) ⊎ Contains list j
  pub kept : (j : ℕ) → is_on old j ≡ true → is_on known j ≡ true
  pub fresh : (q : ℕ) → q < k → q < length list → is_on known (get_or list q 0) ≡ false
  pub done : (q : ℕ) → k ≤ q → q < length list → is_on known (get_or list q 0) ≡ true

module _ {V W : Type 0} (A : Algebra V) (C : Composition V W) (g : GraphData) (F : FactorData W) (factor : IsFactor A C g F)
    (heads : List (List ℕ)) (are : AreHeads g.vertices heads) (at_heads : AreAtHeads heads F) (old : List Bool) (t : ℕ) (list : List ℕ)
    (unknown : AreAllUnknownUp heads g.vertices old t list) where
  abbrev v : ℕ
  v = unknown.0

  read : (q : ℕ) → q < length list → get_or list q v ≡ get_or list q 0
  read q lt = get_or_default list q v 0 lt

  pub list_inside : (q : ℕ) → q < length list → get_or list q 0 < g.vertices
  list_inside q lt =
      omega (arith, unknown.1.inside q lt, read q lt)

  -- each is below the next
  rising : IsStrictlyIncreasing list
  rising q lt =
      let here : q < length list = omega (arith, lt) in
      let is = read q here in
      let up = parent_inside g.vertices heads are (get_or list q v) (get_or list (q + 1) v) (omega (arith, list_inside q here, is)) (unknown.1.parents q here) in
      omega (arith, up.0, is, read (q + 1) lt)

  module _ (before all : List (Option V)) (run : IsBackRun A C g.vertices F before all) where
    pub found_none : (labels : List (Option V)) → length labels ≡ g.vertices → length old ≡ g.vertices → IsKnownUpward heads old →
        Agree g.vertices before all labels old → AreFoundFrom heads g.vertices before all old list (length list) labels old
    found_none labels n m upward agree = record {
      labels_count = n;
      known_count = m;
      agree = agree;
      upward = upward;
      listed = λ j on. inl on;
      kept = λ j on. on;
      fresh = λ q less lt. ap (is_on old) (sym (read q lt)) ∙ unknown.1.fresh q lt;
      done = λ q le lt. absurd (omega (arith, le, lt));
    }

    module _ (q : ℕ) (lt : q < length list) (labels : List (Option V)) (known : List Bool)
        (done : AreFoundFrom heads g.vertices before all old list (q + 1) labels known) where
      abbrev i : ℕ
      i = get_or list q 0

      low : i < g.vertices
      low = list_inside q lt

      -- what is above the place is known
      known_above : (y : ℕ) → IsHead heads i y → is_on known y ≡ true
      known_above y above =
          let parent : IsTreeParent heads g.vertices i (get_or list (q + 1) v) =
          subst (λ (x : ℕ). IsTreeParent heads g.vertices x (get_or list (q + 1) v)) (read q lt) (unknown.1.parents q lt) in
          let inside = are.rising i y above in
          let le = parent.least y above in
          let first : (get_or list (q + 1) v < g.vertices) → is_on known (get_or list (q + 1) v) ≡ true = λ within. elim (cases_lt (q + 1) (length list)) [
            | inl next ↦ ap (is_on known) (read (q + 1) next) ∙ done.done (q + 1) (omega arith) next
            | inr past ↦
                let is : get_or list (q + 1) v ≡ v = get_or_past list (q + 1) v past in
                elim unknown.3 [
                  | inl end ↦ absurd (omega (arith, within, is, end))
                  | inr on ↦ ap (is_on known) is ∙ done.kept v on
                ]
          ] in
          elim (cases_eq y (get_or list (q + 1) v)) [
            | inl is ↦ ap (is_on known) is ∙ first (omega (arith, is, inside.1))
            | inr other ↦ elim parent.one [
              | inl none ↦ absurd (omega (arith, none, le, inside.1))
              | inr up ↦
                  let past = are.nested i (get_or list (q + 1) v) y up above (omega (arith, le, other)) in
                  done.upward (get_or list (q + 1) v) y (first (are.rising i (get_or list (q + 1) v) up).1) past
            ]
          ]

      ready : (k : Link W) → Contains (row_of F.entering i) k → is_on known k.place ≡ true
      ready k h = known_above k.place (at_heads.falling k.place i k.walk h)

      fresh : is_on known i ≡ false
      fresh = done.fresh q (omega arith) lt

      here : is_on (set known i true) i ≡ true
      here = let m = done.known_count in get_or-set_same known i true false (omega (arith, low, m))

      others : (j : ℕ) → (j ≡ i → ⊥) → is_on (set known i true) j ≡ is_on known j
      others j other = get_or-set_other known i j true false other

      keeps : (j : ℕ) → is_on known j ≡ true → is_on (set known i true) j ≡ true
      keeps j on = elim (cases_eq j i) [
        | inl is ↦ ap (is_on (set known i true)) is ∙ here
        | inr other ↦ others j other ∙ on
      ]

      pub found_more : AreFoundFrom heads g.vertices before all old list q
          (set labels i (best_along A C labels (at labels i) (row_of F.entering i))) (set known i true)
      found_more = record {
        labels_count = length-set labels i (best_along A C labels (at labels i) (row_of F.entering i)) ∙ done.labels_count;
        known_count = length-set known i true ∙ done.known_count;
        agree = found_at A C g F factor.links before all run labels known done.agree i low done.labels_count done.known_count fresh ready;
        upward = λ x y on above. elim (cases_eq x i) [
          | inl is ↦ keeps y (known_above y (subst (λ (u : ℕ). IsHead heads u y) is above))
          | inr other ↦ keeps y (done.upward x y (sym (others x other) ∙ on) above)
        ];
        listed = λ j on. elim (cases_eq j i) [
          | inl is ↦ inr (q, lt, get_or_default list q j 0 lt ∙ sym is)
          | inr other ↦ done.listed j (sym (others j other) ∙ on)
        ];
        kept = λ j on. keeps j (done.kept j on);
        fresh = λ p less within.
            others (get_or list p 0) (λ e. omega (arith, rises_between list rising p q less lt, e)) ∙ done.fresh p (omega (arith, less)) within;
        done = λ p le within. elim (cases_eq p q) [
          | inl is ↦ ap (λ (r : ℕ). is_on (set known i true) (get_or list r 0)) is ∙ here
          | inr other ↦ keeps (get_or list p 0) (done.done p (omega (arith, le, other)) within)
        ];
      }

    pub found_all : (labels : List (Option V)) (known : List Bool) → AreFoundFrom heads g.vertices before all old list 0 labels known →
        AreFound heads g.vertices before all old list labels known
    found_all labels known done = record {
      labels_count = done.labels_count;
      known_count = done.known_count;
      agree = done.agree;
      upward = done.upward;
      listed = done.listed;
      kept = done.kept;
      found = λ j c.
          let lt = c.1 in
          ap (is_on known) (sym (get_or_default list c.0 0 j lt ∙ c.2)) ∙ done.done c.0 (omega arith) lt;
    }

    -- then the place itself is known
    pub target_found : t < g.vertices → (labels : List (Option V)) (known : List Bool) → AreFound heads g.vertices before all old list labels known →
        is_on known t ≡ true
    target_found in_t labels known found = elim (cases_lt 0 (length list)) [
      | inl some ↦ found.found t (0, some, get_or_default list 0 t v some ∙ unknown.1.first)
      | inr none ↦
          let is : v ≡ t = sym (get_or_past list 0 v none) ∙ unknown.1.first in
          elim unknown.3 [
            | inl end ↦ absurd (omega (arith, is, end, in_t))
            | inr on ↦ found.kept t (ap (is_on old) (sym is) ∙ on)
          ]
    ]

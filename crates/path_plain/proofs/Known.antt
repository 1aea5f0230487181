-- The search by best vertices first: the labels at its start, what holds between its steps, and the
-- choice of a vertex.
use Rattle.std.proofs.Common.{◌≡◌, ℕ, ◌+◌, ◌-◌, ◌<◌, ◌≤◌, ◌⊎◌, inl, inr, Bool, List, [], ◌∷◌, ◌++◌, length, get_or, replicate, take, refl, ap, sym, ◌∙◌, subst, arith, Option, Some, None, get_or-set_same, get_or-set_other, length-set, true, false, set}
use Rattle.path_plain.proofs.Words.{cases_eq, cases_Bool, Contains-append_left, Contains-push, Contains-push_cases, Contains, IsTrue, not_in_empty, head_or_tail, here, later, label_of, improved, offered, AreOpening, GraphData, IsGraph, HasVertex, arc_of, ListsArcsFrom, Algebra, IsLawful, same_no_worse, IsBestOpen}
use Rattle.std.proofs.lemmas.List.{get_or-replicate, length-replicate, take_more}
pub use Rattle.path_plain.specs.Rounds.{IsSettled, Search}

module _ {V : Type 0} (no_worse : V → V → Bool) (origin : V) (n : ℕ) where
  pub opening_none : AreOpening origin n [] (replicate n None)
  opening_none = record {
    count = length-replicate n None;
    at_sources = λ s h. absurd (not_in_empty s h);
    only_there = λ v y low high e.
        let none : label_of (replicate {A = Option V} n None) v ≡ None = get_or-replicate n (v - 1) None None (omega (arith, low, high)) in
        let bad : None ≡ Some y = sym none ∙ e in cc;
  }

  improved_origin : (l : Option V) → ((y : V) → l ≡ Some y → origin ≡ y) → improved no_worse l origin ≡ Some origin
  improved_origin None only = refl
  improved_origin (Some y) only = elim (cases_Bool (no_worse y origin)) [
    | inr worse ↦ rw worse refl
    | inl kept ↦ let is : origin ≡ y = only y refl in rw kept (ap (λ (v : V). Some v) (sym is))
  ]

  module _ (done : List ℕ) (labels : List (Option V)) (known : AreOpening origin n done labels) (s : ℕ) (low : 1 ≤ s) (high : s ≤ n) where
    abbrev after : List (Option V)
    after = offered no_worse labels s origin

    at_source : (v : ℕ) → v - 1 ≡ s - 1 → label_of after v ≡ Some origin
    at_source v same =
        let lt : s - 1 < length labels = omega (arith, low, high, known.count) in
        rw same (get_or-set_same labels (s - 1) (improved no_worse (label_of labels s) origin) None lt)
        ∙ improved_origin (label_of labels s) (λ y e. (known.only_there s y low high e).1)

    elsewhere : (v : ℕ) → (v - 1 ≡ s - 1 → ⊥) → label_of after v ≡ label_of labels v
    elsewhere v ne = get_or-set_other labels (s - 1) (v - 1) (improved no_worse (label_of labels s) origin) None ne

    -- one more source, wherever the list has it
    opening_one : (sources : List ℕ) → ((v : ℕ) → Contains sources v → Contains done v ⊎ (s ≡ v)) → ((v : ℕ) → Contains done v ⊎ (s ≡ v) → Contains sources v) →
        AreOpening origin n sources after
    opening_one sources from into = record {
      count = simp length-set known.count;
      at_sources = λ v h. elim (cases_eq (v - 1) (s - 1)) [
        | inl same ↦ at_source v same
        | inr other ↦ elim (from v h) [
          | inl old ↦ elsewhere v other ∙ known.at_sources v old
          | inr new ↦ absurd (other (ap (λ (u : ℕ). u - 1) (sym new)))
        ]
      ];
      only_there = λ v y low_v high_v e. elim (cases_eq (v - 1) (s - 1)) [
        | inl same ↦ let read : Some origin ≡ Some y = sym (at_source v same) ∙ e in
            (into v (inr (omega (arith, same, low, low_v))), cc)
        | inr other ↦ let was = known.only_there v y low_v high_v (sym (elsewhere v other) ∙ e) in
            (into v (inl was.0), was.1)
      ];
    }

    pub opening_front : AreOpening origin n (s ∷ done) after
    opening_front = opening_one (s ∷ done)
        (λ v h. elim (head_or_tail s v done h) [ inl same ↦ inr same | inr old ↦ inl old ])
        (λ v h. elim h [ inl old ↦ later s v done old | inr same ↦ subst (λ (u : ℕ). Contains (s ∷ done) u) same (here s done) ])

    pub opening_back : AreOpening origin n (done ++ s ∷ []) after
    opening_back = opening_one (done ++ s ∷ [])
        (λ v h. Contains-push_cases done s v h)
        (λ v h. elim h [
          | inl old ↦ Contains-append_left done (s ∷ []) v old
          | inr same ↦ subst (λ (u : ℕ). Contains (done ++ s ∷ []) u) same (Contains-push done s)
        ])

  -- one turn of the loop over the sources
  pub opening_more : (sources : List ℕ) (i s : ℕ) (labels next : List (Option V)) → AreOpening origin n (take i sources) labels → i < length sources → s ≡ get_or sources i s →
      1 ≤ s → s ≤ n → next ≡ offered no_worse labels s origin → AreOpening origin n (take (i + 1) sources) next
  opening_more sources i s labels next known lt is low high e =
      let cut : take (i + 1) sources ≡ take i sources ++ s ∷ [] = take_more sources i s lt ∙ ap (λ (t : ℕ). take i sources ++ t ∷ []) (sym is) in
      rw (cut, e) (opening_back (take i sources) labels known s low high)

module _ {V : Type 0} (A : Algebra V) (lawful : IsLawful A) (g : GraphData) (roads : IsGraph g) (sources : List ℕ) where
  pub none_settled : (v : ℕ) → HasVertex g v → IsSettled (replicate g.vertices false) v → ⊥
  none_settled v in_v h =
      let f : get_or (replicate g.vertices false) (v - 1) false ≡ false = get_or-replicate g.vertices (v - 1) false false (omega (arith, in_v.0, in_v.1)) in
      let bad : false ≡ true = sym f ∙ h in cc

  pub search_start : (labels : List (Option V)) → AreOpening A.origin g.vertices sources labels → Search A g sources labels (replicate g.vertices false) A.origin []
  search_start labels opening = record {
    labels_count = opening.count;
    settled_count = simp length-replicate;
    values = λ v x in_v e. let f = opening.only_there v x in_v.0 in_v.1 e in ([], (v, f.0, refl), f.1);
    at_sources = λ s h. (A.origin, opening.at_sources s h, same_no_worse A.no_worse lawful.ordered A.origin);
    labelled = λ v in_v h. absurd (none_settled v in_v h);
    above = λ v y in_v o e. let f = opening.only_there v y in_v.0 in_v.1 e in
        subst (λ (z : V). IsTrue (A.no_worse A.origin z)) f.1 (same_no_worse A.no_worse lawful.ordered A.origin);
    closed = λ a h t. absurd (none_settled (arc_of g a).tail ((roads.ends a h).0) t);
    current = λ a h. absurd (not_in_empty a h);
  }

module _ {V : Type 0} (A : Algebra V) (lawful : IsLawful A) (g : GraphData) (roads : IsGraph g) (sources : List ℕ) (labels : List (Option V)) (settled : List Bool) (x y : V) (i : ℕ) (out : List ℕ)
    (known : Search A g sources labels settled x []) (best : IsBestOpen A.no_worse labels settled g.vertices i y) (lists : ListsArcsFrom g (i + 1) out) where
  pub picked : (v : ℕ) → HasVertex g v → IsSettled (set settled i true) v → ((v ≡ i + 1) × (label_of labels v ≡ Some y)) ⊎ (IsSettled settled v)
  picked v in_v h = elim (cases_eq (v - 1) i) [
    | inl same ↦ inl (omega (arith, in_v.0), ap (λ (j : ℕ). get_or labels j None) same ∙ best.label)
    | inr other ↦ inr (sym (get_or-set_other settled i (v - 1) true false other) ∙ h)
  ]

  pub not_picked : (v : ℕ) → get_or (set settled i true) (v - 1) false ≡ false → get_or settled (v - 1) false ≡ false
  not_picked v h = elim (cases_eq (v - 1) i) [
    | inl same ↦ let lt : i < length settled = omega (arith, best.below, known.settled_count) in
        let t : get_or (set settled i true) (v - 1) false ≡ true = rw same (get_or-set_same settled i true false lt) in
        let bad : true ≡ false = sym t ∙ h in cc
    | inr other ↦ sym (get_or-set_other settled i (v - 1) true false other) ∙ h
  ]

  pub now_settled : IsSettled (set settled i true) (i + 1)
  now_settled =
      let lt : i < length settled = omega (arith, best.below, known.settled_count) in
      let e : (i + 1) - 1 ≡ i = omega arith in
      rw e (get_or-set_same settled i true false lt)

  here_label : label_of labels (i + 1) ≡ Some y
  here_label = let e : (i + 1) - 1 ≡ i = omega arith in rw e best.label

  pub search_pick : Search A g sources labels (set settled i true) y out
  search_pick = record {
    labels_count = known.labels_count;
    settled_count = simp length-set known.settled_count;
    values = known.values;
    at_sources = known.at_sources;
    labelled = λ v in_v h. elim (picked v in_v h) [
      | inl p ↦ (y, p.1, same_no_worse A.no_worse lawful.ordered y)
      | inr old ↦ let found = known.labelled v in_v old in
          let e : (i + 1) - 1 ≡ i = omega arith in
          let o : get_or settled ((i + 1) - 1) false ≡ false = rw e best.is_open in
          (found.0, found.1, lawful.ordered.transitive found.0 x y found.2 (known.above (i + 1) y (omega arith, omega (arith, best.below)) o here_label))
    ];
    above = λ v z in_v o e. best.least (v - 1) (omega (arith, in_v.0, in_v.1)) z (not_picked v o) e;
    closed = λ a h t. elim (cases_eq (arc_of g a).tail (i + 1)) [
      | inl same ↦ inl ((lists.complete a).1 (h, same))
      | inr other ↦ inr (elim (picked (arc_of g a).tail ((roads.ends a h).0) t) [
        | inl p ↦ absurd (other p.0)
        | inr old ↦ elim (known.closed a h old) [ inl none ↦ absurd (not_in_empty a none) | inr c ↦ c ]
      ])
    ];
    current = λ a h. let found = (lists.complete a).0 h in
        (found.0, subst (λ (v : ℕ). IsSettled (set settled i true) v) (sym found.1) now_settled, subst (λ (v : ℕ). label_of labels v ≡ Some y) (sym found.1) here_label);
  }

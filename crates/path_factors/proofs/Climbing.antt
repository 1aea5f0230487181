-- Forward substitution from one place: the labels that there are, are those of its ancestors.
use Rattle.path_factors.proofs.Words.{◌≡◌, ℕ, zero, suc, ◌+◌, ◌<◌, ◌≤◌, ◌⊎◌, inl, inr, Bool, true, false, List, length, set, get_or, refl, ap, sym, ◌∙◌, subst, arith, Option, Some, None, get_or-set_same, get_or-set_other, length-set, Contains, cases_eq, cases_lt, cases_Bool, get_or_past, get_or_default, GraphData, IsGraph, Algebra, IsLawful, Composition, IsComposition, Link, FactorData, IsFactor, row_of, at, IsForwardTo, offered_from, AreHeads, IsHead, AreAtHeads, IsTreeParent, IsUp, IsAncestor, is_on, AreOnlyUp}
use Rattle.path_factors.proofs.Offers.{offered_other, offered_is_one}
use Rattle.path_factors.proofs.Sweeps.{forward_goes_on}
use Rattle.path_factors.proofs.Trees.{parent_inside, ancestor_more, ancestor_less}

none_or : {V : Type 0} (o : Option V) → (o ≡ None) ⊎ ((z : V) × (o ≡ Some z))
none_or None = inl refl
none_or (Some z) = inr (z, refl)

-- the places below v are done, and the labels from there on are those of v and of places above it
pub record IsClimbedTo {V : Type 0} (heads : List (List ℕ)) (n s v : ℕ) (labels : List (Option V)) : Type 0 where
  pub below : (j : ℕ) → j < v → (at labels j ≡ None) ⊎ IsAncestor heads n s j
  pub above : (j : ℕ) → v ≤ j → (at labels j ≡ None) ⊎ ((j ≡ v) ⊎ IsHead heads v j)
  pub on : IsAncestor heads n s v

pub climb_begins : {V : Type 0} (heads : List (List ℕ)) (n s : ℕ) (labels : List (Option V)) →
    ((j : ℕ) → (j ≡ s → ⊥) → at labels j ≡ None) → IsClimbedTo heads n s s labels
climb_begins heads n s labels alone = record {
  below = λ j less. inl (alone j (λ e. omega (arith, less, e)));
  above = λ j high. elim (cases_eq j s) [ inl is ↦ inr (inl is) | inr other ↦ inl (alone j other) ];
  on = (0, refl);
}

module _ {V W : Type 0} (A : Algebra V) (lawful : IsLawful A) (C : Composition V W) (composes : IsComposition A C)
    (g : GraphData) (roads : IsGraph g) (F : FactorData W) (factor : IsFactor A C g F) (heads : List (List ℕ)) (are : AreHeads g.vertices heads) where
  -- places without labels are passed over
  pub forward_skips : (sources : List ℕ) (k m : ℕ) (labels : List (Option V)) → IsForwardTo A C g F sources k labels →
      ((x : ℕ) → k ≤ x → x < m → at labels x ≡ None) → IsForwardTo A C g F sources m labels
  forward_skips sources k m labels done none = record {
    count = done.count;
    values = done.values;
    at_sources = done.at_sources;
    up = λ x y a less rises. λ u z f h. elim (cases_lt x k) [
      | inl before ↦ done.up x y a before rises u z f h
      | inr not_before ↦
          let bad : None ≡ Some u = sym (none x not_before less) ∙ f in
          absurd (cc)
    ];
  }

  pub forward_starts_at : (sources : List ℕ) (s : ℕ) (labels : List (Option V)) → ((j : ℕ) → (j ≡ s → ⊥) → at labels j ≡ None) →
      IsForwardTo A C g F sources 0 labels → IsForwardTo A C g F sources s labels
  forward_starts_at sources s labels alone done =
      forward_skips sources 0 s labels done (λ x high less. alone x (λ e. omega (arith, less, e)))

  module _ (at_heads : AreAtHeads heads F) (v p : ℕ) (low : v < g.vertices) (parent : IsTreeParent heads g.vertices v p)
      (labels next : List (Option V)) (count : length labels ≡ g.vertices)
      (step : next ≡ offered_from A C (at labels v) labels (row_of F.leaving v)) where
    inside : (k : Link W) → Contains (row_of F.leaving v) k → (v < k.place) × (k.place < g.vertices)
    inside k h = factor.links.rising v k.place k.walk h

    unchanged_by : (l : Option V) (i : ℕ) → i ≤ v → at (offered_from A C l labels (row_of F.leaving v)) i ≡ at labels i
    unchanged_by None i le = refl
    unchanged_by (Some x) i le =
        offered_other A lawful C x (row_of F.leaving v) labels i (λ k h. let r = inside k h in omega (arith, r.0, le))

    unchanged : (i : ℕ) → i ≤ v → at next i ≡ at labels i
    unchanged i le = ap (λ (l : List (Option V)). at l i) step ∙ unchanged_by (at labels v) i le

    offered_by : (l : Option V) (i : ℕ) (z : V) → at (offered_from A C l labels (row_of F.leaving v)) i ≡ Some z →
        (at labels i ≡ Some z) ⊎ IsHead heads v i
    offered_by None i z e = inl e
    offered_by (Some x) i z e =
        elim (offered_is_one A lawful C x (row_of F.leaving v) labels (λ k h. let r = inside k h in omega (arith, r.1, count)) i z e) [
          | inl old ↦ inl old
          | inr by ↦ inr (subst (λ (u : ℕ). IsHead heads v u) by.2 (at_heads.rising v by.0.place by.0.walk by.1))
        ]

    module _ (s : ℕ) (done : IsClimbedTo heads g.vertices s v labels) where
      labelled : (j : ℕ) → v < j → (at next j ≡ None) ⊎ IsHead heads v j
      labelled j less = elim (none_or (at next j)) [
        | inl none ↦ inl none
        | inr some ↦ elim (offered_by (at labels v) j some.0 (sym (ap (λ (l : List (Option V)). at l j) step) ∙ some.1)) [
          | inl old ↦ elim (done.above j (omega (arith, less))) [
            | inl none ↦ let bad : None ≡ Some some.0 = sym none ∙ old in absurd (cc)
            | inr by ↦ elim by [
              | inl is ↦ absurd (omega (arith, is, less))
              | inr up ↦ inr up
            ]
          ]
          | inr up ↦ inr up
        ]
      ]

      pub climbs_on : IsClimbedTo heads g.vertices s p next
      climbs_on =
          record {
            below = λ j less. elim (cases_lt j v) [
              | inl before ↦ elim (done.below j before) [
                | inl none ↦ inl (unchanged j (omega (arith, before)) ∙ none)
                | inr on ↦ inr on
              ]
              | inr not_before ↦ elim (cases_eq j v) [
                | inl is ↦ inr (subst (λ (u : ℕ). IsAncestor heads g.vertices s u) (sym is) done.on)
                | inr other ↦ elim (labelled j (omega (arith, not_before, other))) [
                  | inl none ↦ inl none
                  | inr above ↦ let le = parent.least j above in absurd (omega (arith, le, less))
                ]
              ]
            ];
            above = λ j high. elim (labelled j (omega (arith, (parent_inside g.vertices heads are v p low parent).0, high))) [
              | inl none ↦ inl none
              | inr above ↦ elim (cases_eq j p) [
                | inl is ↦ inr (inl is)
                | inr other ↦ elim parent.one [
                  | inl none ↦
                      absurd (omega (arith, none, high, (are.rising v j above).1))
                  | inr first ↦
                      inr (inr (are.nested v p j first above (omega (arith, high, other))))
                ]
              ]
            ];
            on = ancestor_more g.vertices heads are s v p done.on low parent;
          }

      pub forward_climbs : (sources : List ℕ) → IsForwardTo A C g F sources v labels → IsForwardTo A C g F sources p next
      forward_climbs sources forward =
          let more = forward_goes_on A lawful C composes g roads F factor sources v low labels forward in
          let here = subst (λ (l : List (Option V)). IsForwardTo A C g F sources (v + 1) l) (sym step) more in
          forward_skips sources (v + 1) p next here (λ x high less. elim (labelled x (omega (arith, high))) [
            | inl none ↦ none
            | inr above ↦ let le = parent.least x above in absurd (omega (arith, le, less))
          ])

  pub climb_ends : (s v : ℕ) (labels : List (Option V)) → length labels ≡ g.vertices → v ≡ g.vertices →
      IsClimbedTo heads g.vertices s v labels → AreOnlyUp heads g.vertices s labels
  climb_ends s v labels count is done = λ j. elim (cases_lt j v) [
    | inl before ↦ done.below j before
    | inr past ↦ inl (get_or_past labels j None (omega (arith, past, is, count)))
  ]

  -- a label was taken away
  pub clear_more : (v p : ℕ) → v < g.vertices → IsTreeParent heads g.vertices v p → (labels : List (Option V)) → length labels ≡ g.vertices →
      AreOnlyUp heads g.vertices v labels → AreOnlyUp heads g.vertices p (set labels v None)
  clear_more v p low parent labels count done = λ j. elim (cases_eq j v) [
    | inl is ↦ inl (ap (at (set labels v None)) is ∙ get_or-set_same labels v None None (omega (arith, low, count)))
    | inr other ↦ elim (done j) [
      | inl none ↦ inl (get_or-set_other labels v j None None other ∙ none)
      | inr on ↦ elim (ancestor_less g.vertices heads are v p j parent on) [
        | inl is ↦ absurd (other (sym is))
        | inr up ↦ inr up
      ]
    ]
  ]

  pub clear_ends : (v : ℕ) (labels : List (Option V)) → length labels ≡ g.vertices → v ≡ g.vertices → AreOnlyUp heads g.vertices v labels →
      (j : ℕ) → at labels j ≡ None
  clear_ends v labels count is done j = elim (done j) [
    | inl none ↦ none
    | inr on ↦ above on.0 on.1
  ]
    where
      above : (k : ℕ) → IsUp heads g.vertices k v j → at labels j ≡ None
      above zero e = get_or_past labels j None (omega (arith, e, is, count))
      above (suc k) up = let low = up.0 in absurd (omega (arith, low, is))

-- some places of a list were forgotten
pub record IsForgotten {V : Type 0} (asked : List ℕ) (k : ℕ) (labels : List (Option V)) (known : List Bool)
    (fewer : List (Option V)) (marks : List Bool) : Type 0 where
  pub labels_count : length fewer ≡ length labels
  pub known_count : length marks ≡ length known
  pub done : (q : ℕ) → q < k → (at fewer (get_or asked q 0) ≡ None) × (is_on marks (get_or asked q 0) ≡ false)
  pub others : (j : ℕ) → ((at fewer j ≡ None) × (is_on marks j ≡ false)) ⊎ ((at fewer j ≡ at labels j) × (is_on marks j ≡ is_on known j))

module _ {V : Type 0} (asked : List ℕ) (labels : List (Option V)) (known : List Bool) where
  pub forgotten_none : IsForgotten asked 0 labels known labels known
  forgotten_none = record {
    labels_count = refl;
    known_count = refl;
    done = λ q low. absurd (omega arith);
    others = λ j. inr (refl, refl);
  }

  pub forgotten_more : (k i : ℕ) (fewer : List (Option V)) (marks : List Bool) → IsForgotten asked k labels known fewer marks →
      length known ≡ length labels → i ≡ get_or asked k 0 → i < length labels →
      IsForgotten asked (k + 1) labels known (set fewer i None) (set marks i false)
  forgotten_more k i fewer marks before same is low =
      let n = before.labels_count in
      let m = before.known_count in
      let none : at (set fewer i None) i ≡ None = get_or-set_same fewer i None None (omega (arith, low, n)) in
      let off : is_on (set marks i false) i ≡ false = get_or-set_same marks i false false (omega (arith, low, m, same)) in
      let both : (j : ℕ) → j ≡ i → (at (set fewer i None) j ≡ None) × (is_on (set marks i false) j ≡ false) =
      λ j e. (ap (at (set fewer i None)) e ∙ none, ap (is_on (set marks i false)) e ∙ off) in
      record {
        labels_count = length-set fewer i None ∙ n;
        known_count = length-set marks i false ∙ m;
        done = λ q less. elim (cases_eq (get_or asked q 0) i) [
          | inl e ↦ both (get_or asked q 0) e
          | inr other ↦ elim (cases_lt q k) [
            | inl earlier ↦
                let was = before.done q earlier in
                (get_or-set_other fewer i (get_or asked q 0) None None other ∙ was.0, get_or-set_other marks i (get_or asked q 0) false false other ∙ was.1)
            | inr not_earlier ↦
                let here : q ≡ k = omega (arith, not_earlier, less) in
                absurd (other (ap (λ (r : ℕ). get_or asked r 0) here ∙ sym is))
          ]
        ];
        others = λ j. elim (cases_eq j i) [
          | inl e ↦ inl (both j e)
          | inr other ↦
              let l = get_or-set_other fewer i j None None other in
              let o = get_or-set_other marks i j false false other in
              elim (before.others j) [
                | inl gone ↦ inl (l ∙ gone.0, o ∙ gone.1)
                | inr kept ↦ inr (l ∙ kept.0, o ∙ kept.1)
              ]
        ];
      }

  module _ (k : ℕ) (all : length asked ≤ k) (listed : (j : ℕ) → is_on known j ≡ true → Contains asked j)
      (fewer : List (Option V)) (marks : List Bool) (end : IsForgotten asked k labels known fewer marks) where
    pub all_forgotten : (j : ℕ) → (is_on marks j ≡ false) × ((at fewer j ≡ None) ⊎ ((is_on known j ≡ false) × (at fewer j ≡ at labels j)))
    all_forgotten j = elim (cases_Bool (is_on known j)) [
      | inl on ↦
          let at_q = listed j on in
          let low = at_q.1 in
          let read : get_or asked at_q.0 0 ≡ j = get_or_default asked at_q.0 0 j low ∙ at_q.2 in
          let gone = end.done at_q.0 (omega (arith, low, all)) in
          (ap (is_on marks) (sym read) ∙ gone.1, inl (ap (at fewer) (sym read) ∙ gone.0))
      | inr off ↦ elim (end.others j) [
        | inl gone ↦ (gone.1, inl gone.0)
        | inr kept ↦ (kept.1 ∙ off, inr (off, kept.0))
      ]
    ]

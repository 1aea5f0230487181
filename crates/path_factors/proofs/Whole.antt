-- Links that are done but for the rows of marked places are done once these are.
use Rattle.path_factors.proofs.Words.{◌≡◌, ℕ, ◌<◌, ◌⊎◌, inl, inr, Bool, true, false, List, replicate, ap, sym, ◌∙◌, subst, arith, Contains, cases_Bool, cases_lt, length-replicate, is_on, GraphData, HasArc, arc_of, Algebra, IsOrder, Composition, Link, FactorData, LeadsNoWorse, CoversArcs, CoversArcsOn, IsBegun, IsClosedOn, IsClosedAt, IsHead, IsLesserOn, IsWholeBut, KeepsRest, AreAligned, Improves, heads_in, place_of, rising}
use Rattle.std.proofs.lemmas.List.{get_or-replicate}
use Rattle.path_factors.proofs.Connecting.{still_leads}
use Rattle.path_factors.proofs.Eliminating.{edge_of_faller, edge_rises}
use Rattle.path_factors.proofs.HeadRows.{head_of_link}
use Rattle.path_factors.proofs.Joining.{at}

-- the lesser of two places is marked or not
pub lesser_decided : (marks : List Bool) (x y : ℕ) → IsLesserOn marks x y ⊎ (IsLesserOn marks x y → ⊥)
lesser_decided marks x y = elim (cases_lt x y) [
  | inl less ↦ elim (cases_Bool (is_on marks x)) [
    | inl on ↦ inl (λ l. on, λ more. absurd (omega (arith, less, more)))
    | inr off ↦ inr (λ both. let bad : true ≡ false = sym (both.0 less) ∙ off in absurd (cc))
  ]
  | inr not_less ↦ elim (cases_lt y x) [
    | inl more ↦ elim (cases_Bool (is_on marks y)) [
      | inl on ↦ inl (λ less. absurd (omega (arith, less, more)), λ l. on)
      | inr off ↦ inr (λ both. let bad : true ≡ false = sym (both.1 more) ∙ off in absurd (cc))
    ]
    | inr not_more ↦ inl (λ less. absurd (omega (arith, less, not_less)), λ more. absurd (omega (arith, more, not_more)))
  ]
]

module _ {V W : Type 0} (A : Algebra V) (C : Composition V W) (ordered : IsOrder C.no_worse) (g : GraphData) (marks : List Bool) (F H : FactorData W)
    (whole : IsWholeBut A C g marks F) (improves : Improves C 0 F H) where
  pub covers_whole : CoversArcsOn C marks g H → CoversArcs C g H
  covers_whole covers = λ a has other.
      let r = arc_of g a in
      let w = C.of_arc r.weight in
      elim (lesser_decided marks (place_of H r.tail) (place_of H r.head)) [
        | inl on ↦ covers a has other on
        | inr off ↦ subst (λ (p : List ℕ). (IsLesserOn marks (at p r.tail) (at p r.head) → ⊥) → LeadsNoWorse C H (at p r.tail) (at p r.head) w) (sym improves.places)
            (λ off_F. still_leads C ordered 0 F H improves (place_of F r.tail) (place_of F r.head) w (whole.covers a has other off_F)) off
      ]

  pub closed_whole : AreAligned H.leaving H.entering → heads_in H.leaving ≡ heads_in F.leaving → KeepsRest (λ z. is_on marks z ≡ true) F H →
      (v : ℕ) → IsClosedOn C marks H v → IsClosedAt C H v
  closed_whole aligned heads rest v closed = λ x y a b falls rises other. elim (lesser_decided marks x y) [
    | inl on ↦ closed x y a b falls rises other on
    | inr off ↦ elim (cases_Bool (is_on marks v)) [
      | inl on ↦
          let e = edge_of_faller H aligned v x a falls in
          let to : e.0.place ≡ x = ap (λ (l : Link W). l.place) e.2 in
          let one : IsHead (heads_in H.leaving) v x =
          subst (λ (p : ℕ). IsHead (heads_in H.leaving) v p) to (head_of_link H.leaving v (rising e.0) (edge_rises H v falls.0 e.0 e.1)) in
          let two : IsHead (heads_in H.leaving) v y = head_of_link H.leaving v (record { place = y; walk = b }) rises in
          let up : (z : ℕ) → IsHead (heads_in H.leaving) v z → is_on marks z ≡ true =
          λ z h. whole.upward v z on (subst (λ (r : List (List ℕ)). IsHead r v z) heads h) in
          absurd (off (λ less. up x one, λ more. up y two))
      | inr not_on ↦
          let same = rest v (λ on. let bad : true ≡ false = sym on ∙ not_on in absurd (cc)) in
          still_leads C ordered 0 F H improves x y (C.compose a b)
          (whole.closed v x y a b not_on
          (subst (λ (r : List (Link W)). Contains r (record { place = x; walk = a })) same.1 falls)
          (subst (λ (r : List (Link W)). Contains r (record { place = y; walk = b })) same.0 rises) other off)
    ]
  ]

-- with each place marked nothing is done
pub none_done : {V W : Type 0} (A : Algebra V) (C : Composition V W) (g : GraphData) (F : FactorData W) → IsBegun A C g F →
    ((a : ℕ) → HasArc g a → (place_of F (arc_of g a).tail < g.vertices) × (place_of F (arc_of g a).head < g.vertices)) →
    ((x y : ℕ) → IsHead (heads_in F.leaving) x y → y < g.vertices) → (n : ℕ) → n ≡ g.vertices → IsWholeBut A C g (replicate n true) F
none_done A C g F begun inside low n is =
    let on : (x : ℕ) → x < g.vertices → is_on (replicate n true) x ≡ true = λ x lt. get_or-replicate n x true false (omega (arith, lt, is)) in
    record {
      marked = length-replicate n true ∙ is;
      upward = λ x y here head. on y (low x y head);
      covers = λ a has other off. let i = inside a has in absurd (off (λ less. on (place_of F (arc_of g a).tail) i.0, λ more. on (place_of F (arc_of g a).head) i.1));
      closed = λ v x y a b off falls rises other never.
          let up = begun.links.rising v y b rises in
          let bad : true ≡ false = sym (on v (omega (arith, up.0, up.1))) ∙ off in absurd (cc);
    }

-- The two sweeps of substitution, one place after the other.
use Rattle.path_factors.proofs.Words.{◌≡◌, ℕ, ◌+◌, ◌<◌, ◌≤◌, inl, inr, List, [], length, set, refl, ap, sym, ◌∙◌, subst, arith, Option, Some, None, get_or-set_same, get_or-set_other, length-set, All, Contains, cases_eq, cases_lt, GraphData, IsGraph, HasVertex, Algebra, IsLawful, Composition, IsComposition, IsWalkValue, all_inside, same_no_worse, Link, FactorData, IsFactor, Rises, row_of, vertex_at, place_of, at, HasNoWorse, IsForward, IsBestDown, AreOrigins, IsForwardTo, IsBackwardFrom, offered_along, offered_from, best_along}
use Rattle.road_graph.proofs.Lists.{same_some}
use Rattle.path_factors.proofs.Offers.{best_keeps, best_passes, best_is_one, offered_count, offered_other, offered_keeps, offered_passes, offered_is_one, no_worse_on}
use Rattle.path_factors.proofs.Substitution.{value_along}

module _ {V W : Type 0} (A : Algebra V) (lawful : IsLawful A) (C : Composition V W) (composes : IsComposition A C)
    (g : GraphData) (roads : IsGraph g) (F : FactorData W) (factor : IsFactor A C g F) where
  module _ (sources : List ℕ) where
    pub forward_starts : (labels : List (Option V)) → All (HasVertex g) sources → AreOrigins A g F sources labels →
        IsForwardTo A C g F sources 0 labels
    forward_starts labels inside origins = record {
      count = origins.count;
      values = λ i x low e.
          let only = origins.only_there i x e in
          let s = only.1.0 in
          let ends : s ≡ vertex_at F i = sym (factor.ordering.place s (all_inside g sources inside s only.1.1)).1 ∙ ap (vertex_at F) only.1.2 in
          ([], (s, only.1.1, ends), only.0);
      at_sources = λ s c. (A.origin, origins.at_sources s c, same_no_worse A.no_worse lawful.ordered A.origin);
      up = λ x y a less rises. absurd (omega arith);
    }

    module _ (k : ℕ) (low : k < g.vertices) (labels : List (Option V)) (done : IsForwardTo A C g F sources k labels) where
      risen : (q : Link W) → Contains (row_of F.leaving k) q → (k < q.place) × (q.place < g.vertices)
      risen q h = factor.links.rising k q.place q.walk h

      inside : (q : Link W) → Contains (row_of F.leaving k) q → q.place < length labels
      inside q h =
          omega (arith, (risen q h).1, done.count)

      module _ (v : V) (e : at labels k ≡ Some v) where
        abbrev next : List (Option V)
        next = offered_along A C v labels (row_of F.leaving k)

        unchanged : (i : ℕ) → i ≤ k → at next i ≡ at labels i
        unchanged i below = offered_other A lawful C v (row_of F.leaving k) labels i (λ q h. let r = risen q h in omega (arith, r.0))

        keeps : (i : ℕ) (x : V) → HasNoWorse A (at labels i) x → HasNoWorse A (at next i) x
        keeps i x h =
            no_worse_on A lawful (at next i) h.0 x (offered_keeps A lawful C v (row_of F.leaving k) labels inside i h.0 h.1) h.2

        offers : IsForwardTo A C g F sources (k + 1) next
        offers = record {
          count = offered_count A lawful C v (row_of F.leaving k) labels ∙ done.count;
          values = λ i x in_i f. elim (offered_is_one A lawful C v (row_of F.leaving k) labels inside i x f) [
            | inl old ↦ done.values i x in_i old
            | inr by ↦
                subst (λ (j : ℕ). IsWalkValue A g sources (vertex_at F j) x) by.2
                (value_along A lawful C composes g roads sources (vertex_at F k) (vertex_at F by.0.place) v x by.0.walk
                (done.values k v low e) (factor.links.sound k by.0.place by.0.walk (inl by.1)) by.3)
          ];
          at_sources = λ s c. keeps (place_of F s) A.origin (done.at_sources s c);
          up = λ x y a less rises. λ u z f h. elim (cases_lt x k) [
            | inl before ↦
                let was : at labels x ≡ Some u = sym (unchanged x (omega (arith, before))) ∙ f in
                keeps y z (done.up x y a before rises u z was h)
            | inr not_before ↦
                let is : x ≡ k = omega (arith, not_before, less) in
                let was : at labels k ≡ Some u = sym (unchanged k (omega arith)) ∙ ap (at next) (sym is) ∙ f in
                let value : u ≡ v = same_some (at labels k) u v was e in
                let from_k : Rises F k y a = subst (λ (j : ℕ). Rises F j y a) is rises in
                offered_passes A lawful C v (row_of F.leaving k) labels inside (record { place = y; walk = a }) z from_k
                (ap (λ (w : V). C.apply w a) (sym value) ∙ h)
          ];
        }

      refuses : at labels k ≡ None → IsForwardTo A C g F sources (k + 1) labels
      refuses e = record {
        count = done.count;
        values = done.values;
        at_sources = done.at_sources;
        up = λ x y a less rises. λ u z f h. elim (cases_lt x k) [
          | inl before ↦ done.up x y a before rises u z f h
          | inr not_before ↦
              let is : x ≡ k = omega (arith, not_before, less) in
              let bad : None ≡ Some u = sym e ∙ ap (at labels) (sym is) ∙ f in
              absurd (cc)
        ];
      }

      by_label : (l : Option V) → at labels k ≡ l →
          IsForwardTo A C g F sources (k + 1) (offered_from A C l labels (row_of F.leaving k))
      by_label None e = refuses e
      by_label (Some v) e = offers v e

      pub forward_goes_on : IsForwardTo A C g F sources (k + 1) (offered_from A C (at labels k) labels (row_of F.leaving k))
      forward_goes_on = by_label (at labels k) refl

    pub forward_ends : (labels : List (Option V)) → IsForwardTo A C g F sources g.vertices labels →
        IsForward A C g F sources labels
    forward_ends labels done = record {
      count = done.count;
      values = done.values;
      at_sources = done.at_sources;
      up = λ x y a rises.
          let r = factor.links.rising x y a rises in
          done.up x y a (omega (arith, r.0, r.1)) rises;
    }

  module _ (before : List (Option V)) where
    -- what is best at a place depends on the labels of greater places alone
    best_stays : (b : Option V) (labels later : List (Option V)) (i : ℕ) (l m : Option V) →
        ((x : ℕ) → i < x → at later x ≡ at labels x) → m ≡ l →
        IsBestDown A C F b labels i l → IsBestDown A C F b later i m
    best_stays b labels later i l m stays is best = record {
      kept = λ x e. subst (λ (o : Option V). HasNoWorse A o x) (sym is) (best.kept x e);
      down = λ x a falls. λ u z f h.
          subst (λ (o : Option V). HasNoWorse A o z) (sym is) (best.down x a falls u z (sym (stays x ((factor.links.falling x i a falls).0)) ∙ f) h);
      given = λ z e. elim (best.given z (sym is ∙ e)) [
        | inl old ↦ inl old
        | inr from ↦
            inr (record {
              place = from.place;
              walk = from.walk;
              falls = from.falls;
              value = from.value;
              label = stays from.place (factor.links.falling from.place i from.walk from.falls).0 ∙ from.label;
              extends = from.extends;
            })
      ];
    }

    -- the best along a row
    pub best_along_is : (labels : List (Option V)) (i : ℕ) (b : Option V) →
        IsBestDown A C F b labels i (best_along A C labels b (row_of F.entering i))
    best_along_is labels i b = record {
      kept = λ x e. best_keeps A lawful C labels (row_of F.entering i) b x e;
      down = λ x a falls. λ u z f h. best_passes A lawful C labels (row_of F.entering i) b (record { place = x; walk = a }) u z falls f h;
      given = λ z e. elim (best_is_one A lawful C labels (row_of F.entering i) b z e) [
        | inl old ↦ inl old
        | inr by ↦ inr (record {
          place = by.link.place;
          walk = by.link.walk;
          falls = by.among;
          value = by.value;
          label = by.label;
          extends = by.extends;
        })
      ];
    }

    module _ (k : ℕ) (low : k < g.vertices) (labels : List (Option V)) (done : IsBackwardFrom A C g F before (k + 1) labels) where
      abbrev best : Option V
      best = best_along A C labels (at labels k) (row_of F.entering k)

      abbrev after : List (Option V)
      after = set labels k best

      others : (i : ℕ) → (i ≡ k → ⊥) → at after i ≡ at labels i
      others i other = get_or-set_other labels k i best None other

      pub backward_goes_on : IsBackwardFrom A C g F before k after
      backward_goes_on = record {
        count = length-set labels k best ∙ done.count;
        below = λ i less. others i (λ e. omega (arith, less, e)) ∙ done.below i (omega (arith, less));
        best = λ i high in_i. elim (cases_eq i k) [
          | inl is ↦
              let here : at after k ≡ best = get_or-set_same labels k best None (omega (arith, low, done.count)) in
              let was : at labels k ≡ at before k = done.below k (omega arith) in
              let now : IsBestDown A C F (at labels k) after k (at after k) =
              best_stays (at labels k) labels after k best (at after k) (λ x more. others x (λ e. omega (arith, more, e))) here
              (best_along_is labels k (at labels k)) in
              subst (λ (j : ℕ). IsBestDown A C F (at before j) after j (at after j)) (sym is)
              (subst (λ (o : Option V). IsBestDown A C F o after k (at after k)) was now)
          | inr other ↦
              let more : k < i = omega (arith, high, other) in
              best_stays (at before i) labels after i (at labels i) (at after i)
              (λ x above. others x (λ e. omega (arith, more, above, e))) (others i other)
              (done.best i (omega (arith, more)) in_i)
        ];
      }

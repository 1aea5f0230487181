-- Links lead to places, vertices stand at places, and the sources' places have the origin.
use Rattle.path_factors.proofs.Words.{◌≡◌, ℕ, zero, suc, replicate, ◌-◌, ◌+◌, ◌<◌, inl, inr, List, [], ◌∷◌, ◌++◌, length, set, get_or, map, refl, ap, sym, ◌∙◌, subst, arith, Option, Some, None, get_or-set_same, get_or-set_other, length-set, Contains, cases_eq, get_or-map, GraphData, HasVertex, not_in_empty, Algebra, Composition, label_of, Link, at, AreOrigins}
use Rattle.std.proofs.lemmas.List.Elements.{Contains-push, Contains-push_cases, Contains-append_left}
use Rattle.path_factors.specs.Factors.{FactorData, AreLinks, IsOrdering, row_of, place_of}

module _ {V W : Type 0} (A : Algebra V) (C : Composition V W) (g : GraphData) (F : FactorData W) (links : AreLinks A C g F) where
  pub leaving_inside : (i : ℕ) (row : List (Link W)) → row ≡ row_of F.leaving i → (j : ℕ) (k : Link W) → j < length row →
      k ≡ get_or row j k → (i < k.place) × (k.place < g.vertices)
  leaving_inside i row is j k lt e =
      links.rising i k.place k.walk (subst (λ (r : List (Link W)). Contains r k) is (j, lt, sym e))

  pub entering_inside : (i : ℕ) (row : List (Link W)) → row ≡ row_of F.entering i → (j : ℕ) (k : Link W) → j < length row →
      k ≡ get_or row j k → (i < k.place) × (k.place < g.vertices)
  entering_inside i row is j k lt e =
      links.falling k.place i k.walk (subst (λ (r : List (Link W)). Contains r k) is (j, lt, sym e))

pub at_none : {V : Type 0} (n i : ℕ) → at {V = V} (replicate n None) i ≡ None
at_none zero i = refl
at_none (suc n) zero = refl
at_none (suc n) (suc i) = at_none n i

module _ {V W : Type 0} (A : Algebra V) (g : GraphData) (F : FactorData W) (ordering : IsOrdering g F) where
  -- one more source
  pub origins_more : (before : List ℕ) (s : ℕ) (labels : List (Option V)) → HasVertex g s →
      AreOrigins A g F before labels → AreOrigins A g F (before ++ s ∷ []) (set labels (place_of F s) (Some A.origin))
  origins_more before s labels in_s done =
      let p = place_of F s in
      let here : at (set labels p (Some A.origin)) p ≡ Some A.origin =
      get_or-set_same labels p (Some A.origin) None (omega (arith, (ordering.place s in_s).0, done.count)) in
      record {
        count = length-set labels p (Some A.origin) ∙ done.count;
        at_sources = λ t c. elim (cases_eq (place_of F t) p) [
          | inl is ↦ ap (at (set labels p (Some A.origin))) is ∙ here
          | inr other ↦ elim (Contains-push_cases before s t c) [
            | inl old ↦ get_or-set_other labels p (place_of F t) (Some A.origin) None other ∙ done.at_sources t old
            | inr new ↦ absurd (other (ap (place_of F) (sym new)))
          ]
        ];
        only_there = λ i x e. elim (cases_eq i p) [
          | inl is ↦
              let read : Some A.origin ≡ Some x = sym here ∙ ap (at (set labels p (Some A.origin))) (sym is) ∙ e in
              (cc, (s, Contains-push before s, sym is))
          | inr other ↦
              let was = done.only_there i x (sym (get_or-set_other labels p i (Some A.origin) None other) ∙ e) in
              (was.0, (was.1.0, Contains-append_left before (s ∷ []) was.1.0 was.1.1, was.1.2))
        ];
      }

  -- the labels of all vertices, read at their places
  pub read_by_vertex : (labels : List (Option V)) (v : ℕ) → HasVertex g v →
      label_of (map (at labels) F.places) v ≡ at labels (place_of F v)
  read_by_vertex labels v in_v =
      get_or-map (at labels) F.places (v - 1) 0 None (omega (arith, in_v.0, in_v.1, ordering.places_count))

  -- before the first source
  pub origins_none : (labels : List (Option V)) → length labels ≡ g.vertices → ((i : ℕ) → at labels i ≡ None) →
      AreOrigins A g F [] labels
  origins_none labels n none = record {
    count = n;
    at_sources = λ s c. absurd (not_in_empty s c);
    only_there = λ i x e. let bad : None ≡ Some x = sym (none i) ∙ e in absurd (cc);
  }

  -- each entry is a place
  pub place_inside : (places : List ℕ) → places ≡ F.places → (i : ℕ) → i < length places → get_or places i 0 < g.vertices
  place_inside places is i lt =
      let back : (i + 1) - 1 ≡ i = omega arith in
      let read : place_of F (i + 1) ≡ get_or places i 0 =
      ap (λ (j : ℕ). get_or F.places j 0) back ∙ ap (λ (l : List ℕ). get_or l i 0) (sym is) in
      let low = (ordering.place (i + 1) (omega arith, omega (arith, lt, ordering.places_count, ap length is))).0 in
      omega (arith, low, read)

-- Labels found one after the other are those of the whole back substitution, which are best.
use Rattle.path_factors.proofs.Words.{◌≡◌, ℕ, zero, suc, ◌+◌, ◌<◌, ◌≤◌, inl, inr, List, [], ◌∷◌, length, map, set, refl, ap, sym, ◌∙◌, subst, arith, Option, None, get_or-set_same, get_or-set_other, length-set, All, Contains, cases_eq, length-map, GraphData, IsGraph, HasVertex, here, later, Algebra, IsLawful, Composition, IsComposition, applied, IsBestLabel, better_label, label_of, Link, FactorData, IsFactor, AreLinks, row_of, place_of, at, best_along, IsForward, IsBestDown, IsBackward, IsBackRun}
use Rattle.path_factors.proofs.Places.{read_by_vertex}
use Rattle.path_factors.proofs.Sweeps.{best_along_is}
use Rattle.path_factors.proofs.Substitution.{substitution_is_best}

-- the best along a row is found from the labels at the places of its links
pub best_along_same : {V W : Type 0} (A : Algebra V) (C : Composition V W) (these those : List (Option V)) (row : List (Link W)) (l : Option V) →
    ((k : Link W) → Contains row k → at these k.place ≡ at those k.place) → best_along A C these l row ≡ best_along A C those l row
best_along_same A C these those [] l same = refl
best_along_same A C these those (k ∷ row) l same =
    ap (λ (o : _). best_along A C these (better_label A.no_worse l (applied C o k.walk)) row) (same k (here k row))
    ∙ best_along_same A C these those row (better_label A.no_worse l (applied C (at those k.place) k.walk)) (λ q h. same q (later k q row h))

module _ {V W : Type 0} (A : Algebra V) (C : Composition V W) (g : GraphData) (F : FactorData W) (links : AreLinks A C g F) (before : List (Option V)) where
  -- when the places from k on are done
  record IsRunFrom (k : ℕ) (labels : List (Option V)) : Type 0 where
    count : length labels ≡ g.vertices
    below : (i : ℕ) → i < k → at labels i ≡ at before i
    best : (i : ℕ) → k ≤ i → i < g.vertices → at labels i ≡ best_along A C labels (at before i) (row_of F.entering i)

  one_less : (k : ℕ) → k < g.vertices → (labels : List (Option V)) → IsRunFrom (suc k) labels →
      (more : List (Option V)) × IsRunFrom k more
  one_less k low labels done =
      let best = best_along A C labels (at labels k) (row_of F.entering k) in
      let more = set labels k best in
      let others : (i : ℕ) → (i ≡ k → ⊥) → at more i ≡ at labels i = λ i other. get_or-set_other labels k i best None other in
      let above : (i : ℕ) → k ≤ i → (q : Link W) → Contains (row_of F.entering i) q → at labels q.place ≡ at more q.place =
      λ i high q h.
      sym (others q.place (λ e. omega (arith, (links.falling q.place i q.walk h).0, e, high))) in (
        more,
        record {
          count = length-set labels k best ∙ done.count;
          below = λ i less. others i (λ e. omega (arith, less, e)) ∙ done.below i (omega (arith, less));
          best = λ i high in_i. elim (cases_eq i k) [
            | inl is ↦
                let at_k : at more k ≡ best = get_or-set_same labels k best None (omega (arith, low, done.count)) in
                let was : at labels k ≡ at before k = done.below k (omega arith) in
                let now : at more k ≡ best_along A C more (at before k) (row_of F.entering k) =
                at_k ∙ ap (λ (o : Option V). best_along A C labels o (row_of F.entering k)) was
                ∙ best_along_same A C labels more (row_of F.entering k) (at before k) (above k (omega arith)) in
                subst (λ (j : ℕ). at more j ≡ best_along A C more (at before j) (row_of F.entering j)) (sym is) now
            | inr other ↦
                others i other ∙ done.best i (omega (arith, high, other)) in_i
                ∙ best_along_same A C labels more (row_of F.entering i) (at before i) (above i high)
          ];
        },
      )

  down_to : (d k : ℕ) → k + d ≡ g.vertices → length before ≡ g.vertices → (labels : List (Option V)) × IsRunFrom k labels
  down_to zero k e n = (before, record { count = n; below = λ i less. refl; best = λ i high low. absurd (omega (arith, e, high, low)) })
  down_to (suc d) k e n =
      let rest = down_to d (suc k) (omega (arith, e)) n in
      one_less k (omega (arith, e)) rest.0 rest.1

  -- back substitution can be made
  pub run_exists : length before ≡ g.vertices → (all : List (Option V)) × IsBackRun A C g.vertices F before all
  run_exists n =
      let done = down_to g.vertices 0 (omega arith) n in
      (done.0, record { count = done.1.count; best = λ i low. done.1.best i (omega arith) low })

module _ {V W : Type 0} (A : Algebra V) (lawful : IsLawful A) (C : Composition V W) (composes : IsComposition A C)
    (g : GraphData) (roads : IsGraph g) (F : FactorData W) (factor : IsFactor A C g F) (before all : List (Option V)) (run : IsBackRun A C g.vertices F before all) where
  pub run_is_backward : IsBackward A C g F before all
  run_is_backward = record {
    count = run.count;
    best = λ i low. subst (λ (o : Option V). IsBestDown A C F (at before i) all i o) (sym (run.best i low))
        (best_along_is A lawful C composes g roads F factor before all i (at before i));
  }

  -- so its label at the place of a vertex is the best one
  pub label_at_place_is_best : (sources : List ℕ) → All (HasVertex g) sources → IsForward A C g F sources before → (v : ℕ) → HasVertex g v →
      IsBestLabel A g sources v (at all (place_of F v))
  label_at_place_is_best sources inside forward v in_v =
      let found = map (at all) F.places in
      let read : (u : ℕ) → HasVertex g u → label_of found u ≡ at all (place_of F u) = λ u in_u. read_by_vertex A g F factor.ordering all u in_u in
      let best = substitution_is_best A lawful C composes g roads sources F factor before all forward run_is_backward inside found
      (length-map F.places (at all) ∙ factor.ordering.places_count) read in
      subst (λ (o : Option V). IsBestLabel A g sources v o) (read v in_v) (best.best v in_v)

-- What holds of an asker as it begins and finds labels.
use Rattle.path_factors.proofs.Words.{replicate, ◌≡◌, ℕ, zero, suc, ◌<◌, ◌⊎◌, inl, inr, Bool, true, false, List, [], ◌∷◌, ◌++◌, length, refl, sym, ◌∙◌, subst, arith, Option, None, All, Contains, cases_lt, cases_Bool, length-replicate, get_or_past, GraphData, IsGraph, HasVertex, here, Algebra, IsLawful, Composition, IsComposition, IsBestLabel, FactorData, IsFactor, FactorState, place_of, at, IsForward, AreHeads, AreAtHeads}
use Rattle.std.proofs.lemmas.List.Elements.{All-nil, All-cons, All-append, Contains-append_left, Contains-append_right}
use Rattle.path_factors.specs.Asking.{is_on, IsBackRun, Agree, IsAsking, IsAboveSource, AreOnlyUp, AreAllUnknownUp, AreFound, IsExtended}
use Rattle.path_factors.proofs.Places.{at_none, origins_none}
use Rattle.path_factors.proofs.Sweeps.{forward_starts, forward_ends}
use Rattle.path_factors.proofs.Backward.{run_exists, label_at_place_is_best}
use Rattle.path_factors.proofs.Climbing.{forward_skips}
use Rattle.path_factors.proofs.Finding.{unknown_inside, target_found}

-- what holds of an asker for these factors
abbrev pub Holds : {T V W : Type 0} → (T → Algebra V) → (T → Composition V W) → FactorState T W → List ℕ → List (Option V) → List Bool → List ℕ → Type 0
Holds meaning walks f = IsAsking (meaning f.algebra) (walks f.algebra) f.roads f.factor f.heads

pub off_none : (n i : ℕ) → is_on (replicate n false) i ≡ false
off_none zero i = refl
off_none (suc n) zero = refl
off_none (suc n) (suc i) = off_none n i

module _ {V W : Type 0} (A : Algebra V) (lawful : IsLawful A) (C : Composition V W) (composes : IsComposition A C)
    (g : GraphData) (roads : IsGraph g) (F : FactorData W) (factor : IsFactor A C g F) (heads : List (List ℕ)) (are : AreHeads g.vertices heads) where
  -- while no place is known
  asking_fresh : (sources : List ℕ) → All (HasVertex g) sources → (labels : List (Option V)) (known : List Bool) → length labels ≡ g.vertices → length known ≡ g.vertices →
      ((j : ℕ) → is_on known j ≡ false) → ((j : ℕ) → (at labels j ≡ None) ⊎ ((is_on known j ≡ true) ⊎ IsAboveSource g.vertices F heads sources j)) →
      IsForward A C g F sources labels → IsAsking A C g F heads sources labels known []
  asking_fresh sources inside labels known n m off labelled forward =
      let made = run_exists A C g F factor.links labels n in
      record {
        inside = inside;
        labels_count = n;
        known_count = m;
        asked_inside = λ i x lt. absurd (omega (arith, lt));
        listed = λ j on. let bad : true ≡ false = sym on ∙ off j in absurd (cc);
        upward = λ x y on above. let bad : true ≡ false = sym on ∙ off x in absurd (cc);
        labelled = labelled;
        before = labels;
        forward = forward;
        all = made.0;
        run = made.1;
        agree = record {
          done = λ i low on. let bad : true ≡ false = sym on ∙ off i in absurd (cc);
          left = λ i low fresh. refl;
        };
      }

  -- before the first source
  pub asking_none : IsAsking A C g F heads [] (replicate g.vertices None) (replicate g.vertices false) []
  asking_none =
      let labels : List (Option V) = replicate g.vertices None in
      let count : length labels ≡ g.vertices = length-replicate g.vertices None in
      let origins = origins_none A g F factor.ordering labels count (λ i. at_none g.vertices i) in
      let start = forward_starts A lawful C composes g roads F factor [] labels (λ i x lt. absurd (omega (arith, lt))) origins in
      let whole = forward_skips A lawful C composes g roads F factor heads are [] 0 g.vertices labels start (λ x high less. at_none g.vertices x) in
      asking_fresh [] (λ i x lt. absurd (omega (arith, lt))) labels (replicate g.vertices false) count (length-replicate g.vertices false) (off_none g.vertices)
      (λ j. inl (at_none g.vertices j)) (forward_ends A lawful C composes g roads F factor [] labels whole)

  -- after forward substitution from a source
  pub asking_begun : (s : ℕ) → HasVertex g s → (labels : List (Option V)) (known : List Bool) → length labels ≡ g.vertices → length known ≡ g.vertices →
      ((j : ℕ) → is_on known j ≡ false) → AreOnlyUp heads g.vertices (place_of F s) labels → IsForward A C g F (s ∷ []) labels →
      IsAsking A C g F heads (s ∷ []) labels known []
  asking_begun s in_s labels known n m off up forward =
      asking_fresh (s ∷ []) (All-cons (HasVertex g) s [] in_s (All-nil (HasVertex g))) labels known n m off
      (λ j. elim (up j) [
        | inl none ↦ inl none
        | inr on ↦ inr (inr (s, here s [], on))
      ]) forward

  module _ (sources : List ℕ) (labels : List (Option V)) (known : List Bool) (asked : List ℕ) (is : IsAsking A C g F heads sources labels known asked) where
    -- more places are listed
    pub asking_extended : (more : List ℕ) → IsExtended g.vertices asked more → IsAsking A C g F heads sources labels known more
    asking_extended more extended = record {
      inside = is.inside;
      labels_count = is.labels_count;
      known_count = is.known_count;
      asked_inside = subst (λ (l : List ℕ). All (λ i. i < g.vertices) l) (sym extended.is) (All-append (λ i. i < g.vertices) asked extended.more is.asked_inside extended.inside);
      listed = λ j on. subst (λ (l : List ℕ). Contains l j) (sym extended.is) (Contains-append_left asked extended.more j (is.listed j on));
      upward = is.upward;
      labelled = is.labelled;
      before = is.before;
      forward = is.forward;
      all = is.all;
      run = is.run;
      agree = is.agree;
    }

    -- their labels are found
    pub asking_found : (list : List ℕ) → All (λ i. i < g.vertices) list → (more : List ℕ) → more ≡ asked ++ list →
        (found : List (Option V)) (marks : List Bool) →
        AreFound heads g.vertices is.before is.all known list found marks → IsAsking A C g F heads sources found marks more
    asking_found list inside more listed found marks done = record {
      inside = is.inside;
      labels_count = done.labels_count;
      known_count = done.known_count;
      asked_inside = subst (λ (l : List ℕ). All (λ i. i < g.vertices) l) (sym listed) (All-append (λ i. i < g.vertices) asked list is.asked_inside inside);
      listed = λ j on. subst (λ (l : List ℕ). Contains l j) (sym listed) (elim (done.listed j on) [
        | inl old ↦ Contains-append_left asked list j (is.listed j old)
        | inr new ↦ Contains-append_right asked list j new
      ]);
      upward = done.upward;
      labelled = λ j. elim (cases_Bool (is_on marks j)) [
        | inl on ↦ inr (inl on)
        | inr off ↦ elim (cases_lt j g.vertices) [
          | inl low ↦
              let was = off_before j off in
              let same : at found j ≡ at labels j = done.agree.left j low off ∙ sym (is.agree.left j low was) in
              elim (is.labelled j) [
                | inl none ↦ inl (same ∙ none)
                | inr by ↦ elim by [
                  | inl on ↦ let bad : true ≡ false = sym on ∙ was in absurd (cc)
                  | inr up ↦ inr (inr up)
                ]
              ]
          | inr past ↦ let n = done.labels_count in inl (get_or_past found j None (omega (arith, past, n)))
        ]
      ];
      before = is.before;
      forward = is.forward;
      all = is.all;
      run = is.run;
      agree = done.agree;
    }
      where
        off_before : (j : ℕ) → is_on marks j ≡ false → is_on known j ≡ false
        off_before j off = elim (cases_Bool (is_on known j)) [
          | inl on ↦ let bad : true ≡ false = sym (done.kept j on) ∙ off in absurd (cc)
          | inr fresh ↦ fresh
        ]

    -- so after the unknown ancestors of a place are found
    module _ (t : ℕ) (list : List ℕ) (unknown : AreAllUnknownUp heads g.vertices known t list) (found : List (Option V)) (marks : List Bool)
        (made : (before all : List (Option V)) → IsBackRun A C g.vertices F before all → Agree g.vertices before all labels known →
        AreFound heads g.vertices before all known list found marks) where
      pub asking_after : (more : List ℕ) → more ≡ asked ++ list → IsAsking A C g F heads sources found marks more
      asking_after more listed =
          asking_found list (unknown_inside heads g.vertices known t list unknown.0 unknown.1) more listed found marks (made is.before is.all is.run is.agree)

      pub target_known : AreAtHeads heads F → t < g.vertices → is_on marks t ≡ true
      target_known at_heads in_t =
          target_found A C g F factor heads are at_heads known t list unknown is.before is.all is.run in_t found marks (made is.before is.all is.run is.agree)

    -- what is left when the known places are forgotten
    pub forgotten_up : (fewer : List (Option V)) → ((j : ℕ) → (at fewer j ≡ None) ⊎ ((is_on known j ≡ false) × (at fewer j ≡ at labels j))) →
        (j : ℕ) → (at fewer j ≡ None) ⊎ IsAboveSource g.vertices F heads sources j
    forgotten_up fewer forgotten j = elim (forgotten j) [
      | inl none ↦ inl none
      | inr kept ↦ elim (is.labelled j) [
        | inl none ↦ inl (kept.1 ∙ none)
        | inr by ↦ elim by [
          | inl on ↦ let bad : true ≡ false = sym on ∙ kept.0 in absurd (cc)
          | inr up ↦ inr up
        ]
      ]
    ]

    -- a known place of a vertex has its best label
    pub known_label_is_best : (v : ℕ) → HasVertex g v → is_on known (place_of F v) ≡ true →
        IsBestLabel A g sources v (at labels (place_of F v))
    known_label_is_best v in_v on =
        subst (λ (o : Option V). IsBestLabel A g sources v o) (sym (is.agree.done (place_of F v) ((factor.ordering.place v in_v).0) on))
        (label_at_place_is_best A lawful C composes g roads F factor is.before is.all is.run sources is.inside is.forward v in_v)

-- The list of the settled vertices, in the order in which they were settled.
use Rattle.tree_search.proofs.Words.{◌≡◌, ℕ, ◌+◌, ◌-◌, ◌<◌, inl, inr, Bool, true, false, List, [], ◌∷◌, ◌++◌, length, get_or, set, replicate, refl, ap, sym, ◌∙◌, subst, arith, Option, Some, None, get_or-map, cases_Bool, get_or_default, Contains-append_left, Contains-push, Contains-push_cases, GraphData, IsGraph, HasVertex, not_in_empty, Algebra, IsLawful, AnswersBestOpen, IsTree, AreNoted, IsSettled, none_settled, by_number, values_in, keys_in, hops_in, parents_in, Mark, AreOpening, Step, Settled, Dropped, Ended}
use Rattle.std.proofs.lemmas.List.Quantifiers.{all_pairs_push}
use Rattle.std.specs.Prelude.{IsTrue, All, AllPairs, Contains, option_map}
use Rattle.path_algebra.specs.Walks.{AreBest, IsBest, label_of}
use Rattle.path_algebra.proofs.Tight.{labelled, best_is_label}
use Rattle.tree_search.specs.Nearest.{AreNearest}
use Rattle.tree_search.specs.Searching.{SearchState, IsBlank, IsSameSearch, Relaxes, Settles, Drops, Proceeds, is_end, listed_after}
use Rattle.tree_search.proofs.Reading.{found, is_some}
use Rattle.tree_search.proofs.Rounds.{Between, starting, keys_count, round_stays, round_inside, round_value, round_open, round_still, round_now, round_settled, round_no_better}
use Rattle.tree_search.proofs.Ending.{values_are_best, all_settled}
use Rattle.tree_search.proofs.Steps.{last_round}

-- the settled vertices are on the list, each once, and the values that they have never get better
-- along it
pub record AreListed {V : Type 0} (no_worse : V → V → Bool) (g : GraphData) (marks : List (Option (Mark V))) (settled : List Bool) (list : List ℕ) : Type 0 where
  pub inside : (v : ℕ) → Contains list v → HasVertex g v × IsSettled settled v
  pub all : (v : ℕ) → HasVertex g v → IsSettled settled v → Contains list v
  pub once : AllPairs (λ u v. u ≡ v → ⊥) list
  pub best_first : AllPairs (λ u v. (x y : V) → label_of (values_in marks) u ≡ Some x → label_of (values_in marks) v ≡ Some y → IsTrue (no_worse x y)) list

there : (list : List ℕ) (i d : ℕ) → i < length list → Contains list (get_or list i d)
there list i d lt = (i, lt, get_or_default list i (get_or list i d) d lt)

-- what holds of all pairs holds of them in other words
all_pairs_said : (R S : ℕ → ℕ → Type 0) (list : List ℕ) → AllPairs R list → ((u v : ℕ) → Contains list u → Contains list v → R u v → S u v) → AllPairs S list
all_pairs_said R S list h f i j d lt within = f (get_or list i d) (get_or list j d) (there list i d (omega (arith, lt, within))) (there list j d within) (h i j d lt within)

module _ {V : Type 0} (A : Algebra V) (lawful : IsLawful A) (g : GraphData) (roads : IsGraph g) (sources : List ℕ) (inside : All (HasVertex g) sources) where
  pub listed_none : (marks : List (Option (Mark V))) → AreListed A.no_worse g marks (replicate g.vertices false) []
  listed_none marks = record {
    inside = λ v c. absurd (not_in_empty v c);
    all = λ v in_v t. absurd (none_settled A lawful g roads sources v in_v t);
    once = λ i j d lt within. absurd (omega (arith, within));
    best_first = λ i j d lt within. absurd (omega (arith, within));
  }

  -- a search that starts is between two rounds, and nothing is listed
  pub started : {C : Type 0} (blank start : SearchState C V) → blank.roads ≡ g → IsBlank blank → IsSameSearch blank start → AreOpening A.origin blank.roads.vertices sources start.marks →
      Between A g sources start.marks start.settled × AreListed A.no_worse g start.marks start.settled []
  started blank start in_graph is_blank same opening =
      let settled : start.settled ≡ replicate g.vertices false = same.settled ∙ is_blank.settled ∙ ap (λ (r : GraphData). replicate r.vertices false) in_graph in
      let here : AreOpening A.origin g.vertices sources start.marks = subst (λ (r : GraphData). AreOpening A.origin r.vertices sources start.marks) in_graph opening in
      rw settled (starting A lawful g roads sources start.marks here, listed_none start.marks)

  module _ {C : Type 0} (order : V → V → Bool) (same : A.no_worse ≡ order) (old new : SearchState C V) (in_graph : old.roads ≡ g) (between : Between A g sources old.marks old.settled)
      (list : List ℕ) (listed : AreListed A.no_worse g old.marks old.settled list) where
    pub listed_dropped : Drops old new → AreListed A.no_worse g new.marks new.settled list
    listed_dropped d = rw (d.marks, d.settled) listed

    module _ (v : ℕ) (s : Settles order A v old new) where
      pass : Relaxes A g (s.index + 1) s.value s.hops old.marks new.marks
      pass = rw in_graph at s.relaxes

      abbrev settled : List Bool
      settled = set old.settled s.index true

      v_inside : HasVertex g v
      v_inside = subst (λ (w : ℕ). HasVertex g w) (sym s.vertex) (round_inside A lawful g roads sources inside order same old.marks old.settled between s.index s.value s.hops new.marks s.best pass)

      v_now : IsSettled settled v
      v_now = subst (λ (w : ℕ). IsSettled settled w) (sym s.vertex) (round_now A lawful g roads sources inside order same old.marks old.settled between s.index s.value s.hops new.marks s.best pass)

      v_open : IsSettled old.settled v → ⊥
      v_open t =
          let o = round_open A lawful g roads sources inside order same old.marks old.settled between s.index s.value s.hops new.marks s.best pass in
          let there : IsSettled old.settled (s.index + 1) = subst (λ (w : ℕ). IsSettled old.settled w) s.vertex t in
          let bad : true ≡ false = sym there ∙ o in cc

      v_value : label_of (values_in old.marks) v ≡ Some s.value
      v_value = subst (λ (w : ℕ). label_of (values_in old.marks) w ≡ Some s.value) (sym s.vertex) (round_value A lawful g roads sources inside order same old.marks old.settled between s.index s.value s.hops new.marks s.best pass)

      still : (u : ℕ) → HasVertex g u → IsSettled old.settled u → IsSettled settled u
      still = round_still A lawful g roads sources inside order same old.marks old.settled between s.index s.value s.hops new.marks s.best pass

      value_stays : (u : ℕ) → HasVertex g u → IsSettled settled u → label_of (values_in new.marks) u ≡ label_of (values_in old.marks) u
      value_stays u in_u t =
          get_or-map (option_map (λ (m : Mark V). m.value)) new.marks (u - 1) None
          ∙ ap (option_map (λ (m : Mark V). m.value)) (round_stays A lawful g roads sources inside order same old.marks old.settled between s.index s.value s.hops new.marks s.best pass u in_u t)
          ∙ sym (get_or-map (option_map (λ (m : Mark V). m.value)) old.marks (u - 1) None)

      abbrev InOrder : ℕ → ℕ → Type 0
      InOrder u w = (x y : V) → label_of (values_in new.marks) u ≡ Some x → label_of (values_in new.marks) w ≡ Some y → IsTrue (A.no_worse x y)

      old_in_order : AllPairs InOrder list
      old_in_order = all_pairs_said (λ u w. (x y : V) → label_of (values_in old.marks) u ≡ Some x → label_of (values_in old.marks) w ≡ Some y → IsTrue (A.no_worse x y)) InOrder list listed.best_first
          (λ u w on_u on_w was x y e f.
          let at_u = listed.inside u on_u in
          let at_w = listed.inside w on_w in
          was x y (sym (value_stays u at_u.0 (still u at_u.0 at_u.1)) ∙ e) (sym (value_stays w at_w.0 (still w at_w.0 at_w.1)) ∙ f))

      last_in_order : (u : ℕ) → Contains list u → InOrder u v
      last_in_order u on x y e f =
          let at = listed.inside u on in
          let was : label_of (values_in old.marks) u ≡ Some x = sym (value_stays u at.0 (still u at.0 at.1)) ∙ e in
          let both : Some s.value ≡ Some y = sym v_value ∙ sym (value_stays v v_inside v_now) ∙ f in
          let is : s.value ≡ y = cc in
          subst (λ (z : V). IsTrue (A.no_worse x z)) is
          (round_no_better A lawful g roads sources inside order same old.marks old.settled between s.index s.value s.hops new.marks s.best pass u x at.0 at.1 was)

      pub listed_settled : AreListed A.no_worse g new.marks new.settled (list ++ v ∷ [])
      listed_settled = rw s.marks (record {
        inside = λ u c. elim (Contains-push_cases list v u c) [
          | inl old_one ↦ (let at = listed.inside u old_one in (at.0, still u at.0 at.1))
          | inr new_one ↦ subst (λ (w : ℕ). HasVertex g w × IsSettled settled w) new_one (v_inside, v_now)
        ];
        all = λ u in_u t. elim (round_settled A lawful g roads sources inside order same old.marks old.settled between s.index s.value s.hops new.marks s.best pass u in_u t) [
          | inl now ↦ subst (λ (w : ℕ). Contains (list ++ v ∷ []) w) (s.vertex ∙ sym now) (Contains-push list v)
          | inr before ↦ Contains-append_left list (v ∷ []) u (listed.all u in_u before)
        ];
        once = all_pairs_push (λ u w. u ≡ w → ⊥) list v listed.once
            (λ k d lt e. v_open (subst (λ (w : ℕ). IsSettled old.settled w) e ((listed.inside (get_or list k d) (there list k d lt)).1)));
        best_first = all_pairs_push InOrder list v old_in_order (λ k d lt. last_in_order (get_or list k d) (there list k d lt));
      })

    -- at the end the list is right
    module _ (p : Proceeds order A Ended old new) where
      none : AnswersBestOpen (by_number A.no_worse) (keys_in old.marks) old.settled g.vertices None
      none j lt = p.advances.2 j (rw (keys_count A lawful g roads sources inside order same old.marks old.settled between) lt)

      best : AreBest A g sources (values_in old.marks)
      best = values_are_best A lawful g roads sources inside old.marks old.settled between.level between.hops between.hopping none

      reached : (v : ℕ) (m : Mark V) → HasVertex g v → label_of old.marks v ≡ Some m → Contains list v
      reached v m in_v e = listed.all v in_v (all_settled A lawful g roads sources inside old.marks old.settled between.level between.hops between.hopping none v m in_v e)

      pub nearest_last : AreNearest A g sources list
      nearest_last = record {
        reached = λ v. (
          λ c.
              let at = listed.inside v c in
              let l = between.hopping.known.labelled v at.0 at.1 in
              (at.0, (l.0, between.hopping.known.values v l.0 at.0 l.1)),
          λ q.
              let l = labelled A lawful g roads sources (values_in old.marks) best v (label_of (values_in old.marks) v) q.0 refl q.1.0 q.1.1 in
              let f = found (λ (m : Mark V). m.value) old.marks v l.0 l.1 in
              reached v f.0 q.0 f.1,
        );
        once = listed.once;
        best_first = all_pairs_said (λ u w. (x y : V) → label_of (values_in old.marks) u ≡ Some x → label_of (values_in old.marks) w ≡ Some y → IsTrue (A.no_worse x y))
            (λ u w. (x y : V) → IsBest A g sources u x → IsBest A g sources w y → IsTrue (A.no_worse x y)) list listed.best_first
            (λ u w on_u on_w was x y b c.
            was x y (best_is_label A lawful g roads sources (values_in old.marks) best u x (listed.inside u on_u).0 b)
            (best_is_label A lawful g roads sources (values_in old.marks) best w y (listed.inside w on_w).0 c));
      }

      pub noted_last : AreNoted g.vertices list new.marks new.settled
      noted_last = rw (p.advances.0, p.advances.1) (record {
        inside = λ v c. (listed.inside v c).0;
        others = λ v low high. elim (cases_Bool (get_or old.settled (v - 1) false)) [
          | inl t ↦ inl (listed.all v (low, high) t)
          | inr o ↦ elim (is_some (label_of old.marks v)) [
            | inl empty ↦ inr (record { label = empty; mark = o })
            | inr some ↦ inl (reached v some.0 (low, high) some.1)
          ]
        ];
      })

    pub listed_next : (step : Step) → is_end step ≡ false → Proceeds order A step old new → AreListed A.no_worse g new.marks new.settled (listed_after step list)
    listed_next (Settled v) more p = listed_settled v p.advances
    listed_next Dropped more p = listed_dropped p.advances
    listed_next Ended more p = let bad : true ≡ false = more in cc

    -- what the search has found at its end
    pub all_found : (step : Step) → is_end step ≡ true → Proceeds order A step old new →
        AreNearest A g sources list × AreBest A g sources (values_in new.marks) × IsTree A g sources (record { hops = hops_in new.marks; parents = parents_in new.marks })
        × AreNoted g.vertices list new.marks new.settled
    all_found Ended end p =
        let f = last_round A lawful order same g roads sources inside old new in_graph between Ended end p in
        (nearest_last p, f.0, f.1, noted_last p)
    all_found step end p = let bad : false ≡ true = end in cc

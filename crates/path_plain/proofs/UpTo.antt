-- A search that stops once each open vertex is worse than the target: labels are best up to there.
use Rattle.std.proofs.Common.{◌≡◌, ℕ, ◌-◌, ◌<◌, ◌^◌, inl, inr, Bool, true, false, List, [], ◌∷◌, length, get_or, refl, ap, sym, ◌∙◌, subst, arith, Option, Some, None, not}
use Rattle.path_plain.proofs.Words.{IsTrue, All, IsUpperBound, cases_Bool, GraphData, IsGraph, HasVertex, arc_of, not_in_empty, Algebra, IsOrder, IsLawful, walk_value_is_value, all_inside, other_no_worse, ranked_cmp, IsQueue, AreBestUpTo, IsPast, bound_is_ahead}
use Rattle.path_algebra.specs.Walks.{IsWalk, Extends, IsWalkValue, IsBest, IsBestLabel, IsNotImproving, AreBest, label_of}
use Rattle.path_algebra.proofs.Tight.{never_better_along, best_is_one, best_at, best_is_label, labelled}
use Rattle.path_plain.proofs.Known.{Search, IsSettled}

-- labels that are best are best up to any target
pub best_up_to : {V : Type 0} (A : Algebra V) → IsLawful A → (g : GraphData) → IsGraph g → (sources : List ℕ) (target : ℕ) → HasVertex g target → (labels : List (Option V)) →
    AreBest A g sources labels → AreBestUpTo A g sources target labels
best_up_to A lawful g roads sources target in_target labels best = record {
  count = best.count;
  values = λ v x in_v e. (best_at A lawful g roads sources labels best v x in_v e).attained;
  at_target = best.best target in_target;
  near = λ t at_target v x in_v b le. best_is_label A lawful g roads sources labels best v x in_v b;
  all = λ none. best;
}

pub not_true : (b : Bool) → not b ≡ true → b ≡ false
not_true true e = let bad : false ≡ true = e in cc
not_true false e = refl

-- if the first entry is worse than the label of the target, the search is past the target
pub queue_past : {K V : Type 0} (value : K → V) (place : K → ℕ) (no_worse : V → V → Bool) → IsOrder no_worse → (labels : List (Option V)) (settled : List Bool) (items : List K) →
    IsQueue value place no_worse labels settled items → (top : K) → IsUpperBound (ranked_cmp value place no_worse) top items →
    (target : ℕ) (t : V) → label_of labels target ≡ Some t → no_worse (value top) t ≡ false → IsPast no_worse labels settled target
queue_past {K} {V} value place no_worse ordered labels settled items known top upper target t at_target worse = record {
  value = t;
  label = at_target;
  worse = λ j y lt o e.
      let c = known.covers j y lt o e in
      let first : IsTrue (no_worse (value top) y) = subst (λ (v : V). IsTrue (no_worse (value top) v)) c.2 (bound_is_ahead value place no_worse items top upper c.0 c.1).0 in
      elim (cases_Bool (no_worse y t)) [
        | inr is ↦ is
        | inl le ↦ let bad : true ≡ false = sym (ordered.transitive (value top) y t first le) ∙ worse in cc
      ];
}

module _ {V : Type 0} (A : Algebra V) (lawful : IsLawful A) (g : GraphData) (roads : IsGraph g) (sources : List ℕ) (inside : All (HasVertex g) sources) (labels : List (Option V)) (settled : List Bool)
    (x : V) (known : Search A g sources labels settled x []) (target : ℕ) (in_target : HasVertex g target) (past : IsPast A.no_worse labels settled target) where
  -- no open label is as good as the target's
  is_done : (v : ℕ) (y : V) → HasVertex g v → label_of labels v ≡ Some y → IsTrue (A.no_worse y past.value) → IsSettled settled v
  is_done v y in_v e le = elim (cases_Bool (get_or settled (v - 1) false)) [
    | inl good ↦ good
    | inr open_one ↦
        let lt : v - 1 < length labels = omega (arith, in_v.0, in_v.1, known.labels_count) in
        let bad : true ≡ false = sym le ∙ past.worse (v - 1) y lt open_one e in cc
  ]

  -- along a walk that ends no worse than the target each tail is settled, so its arc improves no
  -- label
  along : (u : ℕ) (p : List ℕ) (v : ℕ) (y z f : V) → HasVertex g u → IsWalk g u p v → label_of labels u ≡ Some y → IsTrue (A.is_value z) → IsTrue (A.no_worse y z) → Extends A g z p f →
      IsTrue (A.no_worse f past.value) → (l : V) × (label_of labels v ≡ Some l) × IsTrue (A.no_worse l f)
  along u [] v y z f in_u w e iz le ex near = (y, ap (label_of labels) (sym w) ∙ e, subst (λ (q : V). IsTrue (A.no_worse y q)) ex le)
  along u (a ∷ p) v y z f in_u w e iz le ex near =
      let weight = (arc_of g a).weight in
      let fits : weight < 2 ^ 32 = roads.weights a w.0 in
      let ends = roads.ends a w.0 in
      let at_tail : label_of labels (arc_of g a).tail ≡ Some y = ap (label_of labels) w.1 ∙ e in
      let iy : IsTrue (A.is_value y) = walk_value_is_value A lawful g roads sources u y (known.values u y in_u e) in
      let on = never_better_along A lawful g roads u (a ∷ p) v z f w iz ex in
      let y_near = lawful.ordered.transitive y z past.value le (lawful.ordered.transitive z f past.value on near) in
      let closed : IsNotImproving A g labels a =
      elim (known.closed a w.0 (is_done (arc_of g a).tail y ends.0 at_tail y_near)) [ inl waits ↦ absurd (not_in_empty a waits) | inr c ↦ c ] in
      let passed = lawful.monotone y z weight ex.0 iy iz fits le ex.1 in
      let next = closed y passed.0 at_tail passed.1 in
      along (arc_of g a).head p v next.0 ex.0 f ends.1 w.2 next.1 (lawful.extend_is_value z weight ex.0 iz fits ex.1)
      (lawful.ordered.transitive next.0 passed.0 ex.0 next.2 passed.2) ex.2 near

  -- a walk that is no worse than the target's label leads to a vertex with a label that is no worse
  found : (v : ℕ) (y : V) → IsWalkValue A g sources v y → IsTrue (A.no_worse y past.value) → (l : V) × (label_of labels v ≡ Some l) × IsTrue (A.no_worse l y)
  found v y w near =
      let s = known.at_sources w.1.0 w.1.1 in
      along w.1.0 w.0 v s.0 A.origin y (all_inside g sources inside w.1.0 w.1.1) w.1.2 s.1 lawful.origin_is_value s.2 w.2 near

  -- the label of the target is its best value
  target_best : IsBest A g sources target past.value
  target_best = record {
    attained = known.values target past.value in_target past.label;
    least = λ y w. elim (cases_Bool (A.no_worse past.value y)) [
      | inl good ↦ good
      | inr worse ↦
          let f = found target y w (other_no_worse A.no_worse lawful.ordered past.value y worse) in
          let same : Some f.0 ≡ Some past.value = sym f.1 ∙ past.label in
          let is : f.0 ≡ past.value = cc in
          subst (λ (q : V). IsTrue (A.no_worse q y)) is f.2
    ];
  }

  pub search_past : AreBestUpTo A g sources target labels
  search_past = record {
    count = known.labels_count;
    values = known.values;
    at_target = subst (λ (l : Option V). IsBestLabel A g sources target l) (sym past.label) target_best;
    near = λ t at_target v y in_v b le.
        let is : t ≡ past.value = best_is_one A lawful g roads sources target t past.value at_target target_best in
        let f = found v y b.attained (subst (λ (q : V). IsTrue (A.no_worse y q)) is le) in
        let same : f.0 ≡ y = lawful.ordered.antisymmetric f.0 y f.2 (b.least f.0 (known.values v f.0 in_v f.1)) in
        f.1 ∙ ap (λ (q : V). Some q) same;
    all = λ none. absurd (none past.value (known.values target past.value in_target past.label));
  }

-- what labels that are best up to a target say of other targets; `whole` are best labels
module _ {V : Type 0} (A : Algebra V) (lawful : IsLawful A) (g : GraphData) (roads : IsGraph g) (sources : List ℕ) (whole : List (Option V)) (best : AreBest A g sources whole)
    (labels : List (Option V)) (target : ℕ) (up : AreBestUpTo A g sources target labels) where
  -- if the target has no label all are best
  pub best_without : label_of labels target ≡ None → AreBest A g sources labels
  best_without none = up.all (subst (λ (l : Option V). IsBestLabel A g sources target l) none up.at_target)

  -- they are best up to any vertex whose label is no worse than the target's
  pub best_up_to_nearer : (other : ℕ) (y t : V) → HasVertex g other → label_of labels other ≡ Some y → label_of labels target ≡ Some t → IsTrue (A.no_worse y t) →
      AreBestUpTo A g sources other labels
  best_up_to_nearer other y t in_other at_other is le =
      let best_t : IsBest A g sources target t = subst (λ (l : Option V). IsBestLabel A g sources target l) is up.at_target in
      let walk = up.values other y in_other at_other in
      let l = labelled A lawful g roads sources whole best other (label_of whole other) in_other refl y walk in
      let best_l = best_at A lawful g roads sources whole best other l.0 in_other l.1 in
      let has : label_of labels other ≡ Some l.0 = up.near t best_t other l.0 in_other best_l (lawful.ordered.transitive l.0 y t l.2 le) in
      record {
        count = up.count;
        values = up.values;
        at_target = subst (λ (m : Option V). IsBestLabel A g sources other m) (sym has) best_l;
        near = λ o at_o v x in_v b no_worse.
            up.near t best_t v x in_v b (lawful.ordered.transitive x o t no_worse (lawful.ordered.transitive o y t (at_o.least y walk) le));
        all = λ none. absurd (none y walk);
      }

-- Substitution in a factor gives best values.
use Rattle.path_factors.proofs.Words.{◌≡◌, ℕ, zero, suc, ◌+◌, ◌<◌, ◌≤◌, inl, inr, List, [], ◌∷◌, ◌++◌, length, ap, sym, ◌∙◌, subst, arith, Option, Some, None, IsTrue, All, Contains, cases_eq, cases_lt, get_or_past, GraphData, IsGraph, HasArc, HasVertex, arc_of, Algebra, IsLawful, Composition, IsComposition, applied, FactorData, IsFactor, AreStable, Rises, Falls, IsWorthOfWalk, vertex_at, place_of}
use Rattle.path_algebra.specs.Walks.{IsWalk, Extends, IsWalkValue, AreBest, IsNotImproving, label_of}
use Rattle.path_algebra.proofs.Walks.{labels_are_best, walk_value_is_value, all_inside}
use Rattle.path_factors.specs.Substituting.{at, Passes, IsForward, IsBackward}

-- a walk, and after it another
pub IsWalk-append : (g : GraphData) (u : ℕ) (p : List ℕ) (v : ℕ) (q : List ℕ) (w : ℕ) → IsWalk g u p v → IsWalk g v q w →
    IsWalk g u (p ++ q) w
IsWalk-append g u [] v q w h k = subst (λ (s : ℕ). IsWalk g s q w) (sym h) k
IsWalk-append g u (a ∷ p) v q w h k = (h.0, h.1, IsWalk-append g (arc_of g a).head p v q w h.2 k)

pub Extends-append : {V : Type 0} (A : Algebra V) (g : GraphData) (x : V) (p : List ℕ) (y : V) (q : List ℕ) (z : V) →
    Extends A g x p y → Extends A g y q z → Extends A g x (p ++ q) z
Extends-append {V} A g x [] y q z h k = subst (λ (s : V). Extends A g s q z) (sym h) k
Extends-append A g x (a ∷ p) y q z h k = (h.0, h.1, Extends-append A g h.0 p y q z h.2 k)

module _ {V W : Type 0} (A : Algebra V) (lawful : IsLawful A) (C : Composition V W) (composes : IsComposition A C)
    (g : GraphData) (roads : IsGraph g) (sources : List ℕ) where
  -- a walk's value, extended by a walk
  pub value_along : (u v : ℕ) (x z : V) (a : W) → IsWalkValue A g sources u x → IsWorthOfWalk A C g u v a →
      C.apply x a ≡ Some z → IsWalkValue A g sources v z
  value_along u v x z a w worth e =
      let on = worth x z (walk_value_is_value A lawful g roads sources u x w) e in (
        w.0 ++ on.0,
        (w.1.0, w.1.1, IsWalk-append g w.1.0 w.0 u on.0 v w.1.2 on.1),
        Extends-append A g A.origin w.0 x on.0 z w.2 on.2,
      )

  module _ (F : FactorData W) (factor : IsFactor A C g F) (before labels : List (Option V))
      (forward : IsForward A C g F sources before) (backward : IsBackward A C g F before labels) where
    -- each label is the value of a walk: by induction on how many places are above
    values_within : (d i : ℕ) (x : V) → g.vertices ≤ i + d → i < g.vertices → at labels i ≡ Some x →
        IsWalkValue A g sources (vertex_at F i) x
    values_within zero i x far low e = absurd (omega arith)
    values_within (suc d) i x far low e = elim ((backward.best i low).given x e) [
      | inl same ↦ forward.values i x low same
      | inr down ↦
          let from = factor.links.falling down.place i down.walk down.falls in
          value_along (vertex_at F down.place) (vertex_at F i) down.value x down.walk
          (values_within d down.place down.value (omega (arith, far, from.0)) from.1 down.label)
          (factor.links.sound down.place i down.walk (inr down.falls)) down.extends
    ]

    pub values : (i : ℕ) (x : V) → i < g.vertices → at labels i ≡ Some x → IsWalkValue A g sources (vertex_at F i) x
    values i x low e = values_within g.vertices i x (omega arith) low e

    is_value : (i : ℕ) (x : V) → i < g.vertices → at labels i ≡ Some x → IsTrue (A.is_value x)
    is_value i x low e = walk_value_is_value A lawful g roads sources (vertex_at F i) x (values i x low e)

    -- no link to a lesser place improves a label
    passes_down : (x y : ℕ) (a : W) → Falls F x y a → Passes A C (at labels x) a (at labels y)
    passes_down x y a falls =
        let inside = factor.links.falling x y a falls in
        let low : y < g.vertices = omega (arith, inside.0, inside.1) in
        (backward.best y low).down x a falls

    -- no link to a greater place improves a label, if none between places past this one does. A label
    -- that came down from a place z could have gone on from there: past x, or, if that would lead back
    -- to z, by staying there
    passes_up : (x y : ℕ) (a : W) → AreStable A C F (x + 1) labels → Rises F x y a → Passes A C (at labels x) a (at labels y)
    passes_up x y a above rises = λ u t e f.
        let inside = factor.links.rising x y a rises in
        let low : x < g.vertices = omega (arith, inside.0, inside.1) in
        elim ((backward.best x low).given u e) [
          | inl same ↦
              let first = forward.up x y a rises u t same f in
              let kept = (backward.best y inside.1).kept first.0 first.1 in
              (kept.0, kept.1, lawful.ordered.transitive kept.0 first.0 t kept.2 first.2)
          | inr from ↦
              let z = from.place in
              let is = is_value z from.value (factor.links.falling z x from.walk from.falls).1 from.label in
              elim (cases_eq z y) [
                | inl same ↦
                    let on = composes.never_better u a t (composes.apply_is_value from.value from.walk u is from.extends) f in (
                      from.value,
                      subst (λ (i : ℕ). at labels i ≡ Some from.value) same from.label,
                      lawful.ordered.transitive from.value u t (composes.never_better from.value from.walk u is from.extends) on,
                    )
                | inr other ↦
                    let whole : C.apply from.value (C.compose from.walk a) ≡ Some t =
                    composes.apply_composed from.value from.walk a is ∙ ap (λ (o : Option V). applied C o a) from.extends ∙ f in
                    factor.closed x low z y from.walk a from.falls rises other labels above from.value t from.label whole
              ]
        ]

    value_anywhere : (i : ℕ) (x : V) → at labels i ≡ Some x → IsTrue (A.is_value x)
    value_anywhere i x e = elim (cases_lt i g.vertices) [
      | inl low ↦ is_value i x low e
      | inr past ↦
          let bad : None ≡ Some x = sym (get_or_past labels i None (omega (arith, past, backward.count))) ∙ e in
          absurd (cc)
    ]

    -- so no link does: by induction on how many places are above
    stable : (d low : ℕ) → g.vertices ≤ low + d → AreStable A C F low labels
    stable zero low far = record {
      values = value_anywhere;
      passes = λ x y a high also leads. elim leads [
        | inl rises ↦ let inside = factor.links.rising x y a rises in absurd (omega (arith, inside.0, inside.1, far, high))
        | inr falls ↦ let inside = factor.links.falling x y a falls in absurd (omega (arith, inside.0, inside.1, far, also))
      ];
    }
    stable (suc d) low far =
        let above : AreStable A C F (low + 1) labels = stable d (low + 1) (omega (arith, far)) in
        record {
          values = value_anywhere;
          passes = λ x y a high also leads. elim leads [
            | inr falls ↦ passes_down x y a falls
            | inl rises ↦ elim (cases_eq x low) [
              | inl is ↦
                  passes_up x y a (subst (λ (v : ℕ). AreStable A C F (v + 1) labels) (sym is) above) rises
              | inr other ↦
                  above.passes x y a (omega (arith, high, other)) (omega (arith, high, other, (factor.links.rising x y a rises).0)) (inl rises)
            ]
          ];
        }

    pub all_stable : AreStable A C F 0 labels
    all_stable = stable g.vertices 0 (omega arith)

    -- the labels by vertex
    module _ (inside : All (HasVertex g) sources) (found : List (Option V)) (count : length found ≡ g.vertices)
        (is : (v : ℕ) → HasVertex g v → label_of found v ≡ at labels (place_of F v)) where
      by_vertex : (v : ℕ) (x : V) → HasVertex g v → label_of found v ≡ Some x → IsWalkValue A g sources v x
      by_vertex v x in_v e =
          let place = factor.ordering.place v in_v in
          subst (λ (u : ℕ). IsWalkValue A g sources u x) place.1 (values (place_of F v) x place.0 (sym (is v in_v) ∙ e))

      no_arc_improves : (a : ℕ) → HasArc g a → IsNotImproving A g found a
      no_arc_improves a has = λ x z e f.
          let tail = (arc_of g a).tail in
          let head = (arc_of g a).head in
          let ends = roads.ends a has in
          let fits = roads.weights a has in
          let value = walk_value_is_value A lawful g roads sources tail x (by_vertex tail x ends.0 e) in
          elim (cases_eq tail head) [
            | inl loop ↦ (
              x,
              subst (λ (v : ℕ). label_of found v ≡ Some x) loop e,
              lawful.never_better x (arc_of g a).weight z value fits f,
            )
            | inr other ↦
                let at_tail : at labels (place_of F tail) ≡ Some x = sym (is tail ends.0) ∙ e in
                let whole : C.apply x (C.of_arc (arc_of g a).weight) ≡ Some z = composes.apply_arc x (arc_of g a).weight value fits ∙ f in
                let last = factor.covers a has other labels all_stable x z at_tail whole in
                (last.0, (let here = is head ends.1 in here ∙ last.1), last.2)
          ]

      at_source : (s : ℕ) → Contains sources s → (x : V) × (label_of found s ≡ Some x) × IsTrue (A.no_worse x A.origin)
      at_source s c =
          let in_s = all_inside g sources inside s c in
          let first = forward.at_sources s c in
          let kept = (backward.best (place_of F s) (factor.ordering.place s in_s).0).kept first.0 first.1 in
          (kept.0, is s in_s ∙ kept.1, lawful.ordered.transitive kept.0 first.0 A.origin kept.2 first.2)

      pub substitution_is_best : AreBest A g sources found
      substitution_is_best =
          labels_are_best A lawful g roads sources found (λ v x in_v e. by_vertex v x in_v e) no_arc_improves
          (all_inside g sources inside) at_source count

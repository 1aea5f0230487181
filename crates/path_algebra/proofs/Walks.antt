-- Laws of walks and of best labels.
use Rattle.path_algebra.proofs.Words.{◌≡◌, ℕ, ◌<◌, ◌^◌, List, [], ◌∷◌, ◌++◌, length, refl, ap, sym, ◌∙◌, subst, Option, Some, None, IsTrue, All, Contains, GraphData, IsGraph, HasArc, HasVertex, arc_of, Algebra, IsLawful}
use Rattle.path_algebra.specs.Walks.{IsWalk, Extends, IsWalkValue, IsBestLabel, AreBest, AreWalkValues, IsNotImproving, label_of}

-- sources that are all vertices, one by one
pub all_inside : (g : GraphData) (sources : List ℕ) → All (HasVertex g) sources → (s : ℕ) → Contains sources s →
    HasVertex g s
all_inside g sources inside s h = subst (λ (u : ℕ). HasVertex g u) h.2 (inside h.0 s h.1)

-- a walk goes on by an arc
pub IsWalk-snoc : (g : GraphData) (s : ℕ) (p : List ℕ) (u a : ℕ) → IsWalk g s p u → HasArc g a →
    (arc_of g a).tail ≡ u →
    IsWalk g s (p ++ a ∷ []) (arc_of g a).head
IsWalk-snoc g s [] u a w h e = (h, e ∙ sym w, refl)
IsWalk-snoc g s (b ∷ p) u a w h e = (w.0, w.1, IsWalk-snoc g (arc_of g b).head p u a w.2 h e)

module _ {V : Type 0} (A : Algebra V) (g : GraphData) where
  pub Extends-snoc : (x : V) (p : List ℕ) (y : V) (a : ℕ) (z : V) → Extends A g x p y →
      A.extend y (arc_of g a).weight ≡ Some z → Extends A g x (p ++ a ∷ []) z
  Extends-snoc x [] y a z h e = (z, ap (λ (v : V). A.extend v (arc_of g a).weight) h ∙ e, refl)
  Extends-snoc x (b ∷ p) y a z h e = (h.0, h.1, Extends-snoc h.0 p y a z h.2 e)

  -- the value of a walk, extended by an arc that leaves its end
  pub IsWalkValue-extend : (sources : List ℕ) (u a : ℕ) (x z : V) → IsWalkValue A g sources u x → HasArc g a →
      (arc_of g a).tail ≡ u →
      A.extend x (arc_of g a).weight ≡ Some z → IsWalkValue A g sources (arc_of g a).head z
  IsWalkValue-extend sources u a x z w h e f =
      (w.0 ++ a ∷ [], (w.1.0, w.1.1, IsWalk-snoc g w.1.0 w.0 u a w.1.2 h e), Extends-snoc A.origin w.0 x a z w.2 f)

module _ {V : Type 0} (A : Algebra V) (lawful : IsLawful A) (g : GraphData) (roads : IsGraph g) where
  pub extended_is_value : (s : ℕ) (p : List ℕ) (v : ℕ) (x y : V) → IsWalk g s p v → IsTrue (A.is_value x) →
      Extends A g x p y → IsTrue (A.is_value y)
  extended_is_value s [] v x y w h e = subst (λ (z : V). IsTrue (A.is_value z)) e h
  extended_is_value s (a ∷ p) v x y w h e =
      extended_is_value (arc_of g a).head p v e.0 y w.2
      (lawful.extend_is_value x (arc_of g a).weight e.0 h (roads.weights a w.0) e.1) e.2

  pub walk_value_is_value : (sources : List ℕ) (v : ℕ) (x : V) → IsWalkValue A g sources v x →
      IsTrue (A.is_value x)
  walk_value_is_value sources v x w = extended_is_value w.1.0 w.0 v A.origin x w.1.2 lawful.origin_is_value w.2

  module _ (sources : List ℕ) (labels : List (Option V))
      (values : AreWalkValues A g sources labels)
      (closed : (a : ℕ) → HasArc g a → IsNotImproving A g labels a) where
    -- a label is no worse than any walk to its vertex makes of a label or of what is worse
    pub least_along : (u : ℕ) (p : List ℕ) (v : ℕ) (x y t : V) → HasVertex g u → IsWalk g u p v →
        label_of labels u ≡ Some x →
        IsTrue (A.is_value y) → IsTrue (A.no_worse x y) → Extends A g y p t →
        (z : V) × (label_of labels v ≡ Some z) × IsTrue (A.no_worse z t)
    least_along u [] v x y t in_u w e iy le ex =
        (x, ap (label_of labels) (sym w) ∙ e, subst (λ (z : V). IsTrue (A.no_worse x z)) ex le)
    least_along u (a ∷ p) v x y t in_u w e iy le ex =
        let weight = (arc_of g a).weight in
        let fits : weight < 2 ^ 32 = roads.weights a w.0 in
        let at_tail : label_of labels (arc_of g a).tail ≡ Some x = ap (label_of labels) w.1 ∙ e in
        let ix : IsTrue (A.is_value x) = walk_value_is_value sources u x (values u x in_u e) in
        let passed = lawful.monotone x y weight ex.0 ix iy fits le ex.1 in
        let next = closed a w.0 x passed.0 at_tail passed.1 in
        least_along (arc_of g a).head p v next.0 ex.0 t ((roads.ends a w.0).1) w.2 next.1
        (lawful.extend_is_value y weight ex.0 iy fits ex.1)
        (lawful.ordered.transitive next.0 passed.0 ex.0 next.2 passed.2) ex.2

    module _ (in_s : (s : ℕ) → Contains sources s → HasVertex g s)
        (at_source : (s : ℕ) → Contains sources s →
        (x : V) × (label_of labels s ≡ Some x) × IsTrue (A.no_worse x A.origin)) where
      found : (v : ℕ) (y : V) → IsWalkValue A g sources v y →
          (z : V) × (label_of labels v ≡ Some z) × IsTrue (A.no_worse z y)
      found v y w =
          let x = at_source w.1.0 w.1.1 in
          least_along w.1.0 w.0 v x.0 A.origin y (in_s w.1.0 w.1.1) w.1.2 x.1 lawful.origin_is_value x.2 w.2

      pub label_is_best : (v : ℕ) (l : Option V) → HasVertex g v → label_of labels v ≡ l →
          IsBestLabel A g sources v l
      label_is_best v None in_v e = λ y w.
          let f = found v y w in
          let bad : None ≡ Some f.0 = sym e ∙ f.1 in
          cc
      label_is_best v (Some z) in_v e = record {
        attained = values v z in_v e;
        least = λ y w.
            let f = found v y w in
            let same : f.0 ≡ z = cc in
            subst (λ (q : V). IsTrue (A.no_worse q y)) same f.2;
      }

      pub labels_are_best : length labels ≡ g.vertices → AreBest A g sources labels
      labels_are_best n = record { count = n; best = λ v in_v. label_is_best v (label_of labels v) in_v refl }

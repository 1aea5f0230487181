-- Tight arcs reach every vertex that is reached at all.
use Rattle.path_algebra.proofs.Words.{◌≡◌, ℕ, ◌+◌, ◌-◌, ◌<◌, ◌^◌, Bool, true, false, List, [], ◌∷◌, get_or, refl, ap, sym, ◌∙◌, subst, arith, Option, Some, None, GraphData, IsGraph, HasArc, HasVertex, arc_of, Algebra, IsLawful, AnswersBestOpen}
use Rattle.std.specs.Prelude.{IsTrue, Contains, ◌↔◌}
use Rattle.path_algebra.specs.Walks.{IsWalk, Extends, IsWalkValue, IsBest, IsBestLabel, AreBest, IsTight, label_of, is_tight, is_tight_between, is_reached_by}
use Rattle.path_algebra.proofs.Walks.{walk_value_is_value, IsWalkValue-extend}
use Rattle.path_algebra.proofs.Least.{same_no_worse, best_open}

module _ {V : Type 0} (A : Algebra V) (lawful : IsLawful A) (g : GraphData) (roads : IsGraph g) where
  -- no arc of a walk makes a value better
  pub never_better_along : (s : ℕ) (p : List ℕ) (v : ℕ) (x y : V) → IsWalk g s p v → IsTrue (A.is_value x) →
      Extends A g x p y → IsTrue (A.no_worse x y)
  never_better_along s [] v x y w h ex =
      subst (λ (z : V). IsTrue (A.no_worse x z)) ex (same_no_worse A.no_worse lawful.ordered x)
  never_better_along s (a ∷ p) v x y w h ex =
      let fits : (arc_of g a).weight < 2 ^ 32 = roads.weights a w.0 in
      lawful.ordered.transitive x ex.0 y (lawful.never_better x (arc_of g a).weight ex.0 h fits ex.1)
      (never_better_along (arc_of g a).head p v ex.0 y w.2
      (lawful.extend_is_value x (arc_of g a).weight ex.0 h fits ex.1) ex.2)

  -- a best value is one alone
  pub best_is_one : (sources : List ℕ) (v : ℕ) (x y : V) → IsBest A g sources v x → IsBest A g sources v y →
      x ≡ y
  best_is_one sources v x y h k = lawful.ordered.antisymmetric x y (h.least y k.attained) (k.least x h.attained)

  module _ (sources : List ℕ) (labels : List (Option V)) (are : AreBest A g sources labels) where
    pub best_at : (v : ℕ) (x : V) → HasVertex g v → label_of labels v ≡ Some x → IsBest A g sources v x
    best_at v x in_v e = subst (λ (l : Option V). IsBestLabel A g sources v l) e (are.best v in_v)

    -- a vertex with a walk that has a value has a label
    pub labelled : (v : ℕ) (l : Option V) → HasVertex g v → label_of labels v ≡ l → (y : V) →
        IsWalkValue A g sources v y → (x : V) × (label_of labels v ≡ Some x) × IsTrue (A.no_worse x y)
    labelled v None in_v e y w =
        absurd (subst (λ (l : Option V). IsBestLabel A g sources v l) e (are.best v in_v) y w)
    labelled v (Some x) in_v e y w = (x, e, (best_at v x in_v e).least y w)

    -- the best value of a vertex is its label
    pub best_is_label : (v : ℕ) (x : V) → HasVertex g v → IsBest A g sources v x → label_of labels v ≡ Some x
    best_is_label v x in_v b =
        let l = labelled v (label_of labels v) in_v refl x b.attained in
        l.1 ∙ ap (λ (z : V). Some z) (best_is_one sources v l.0 x (best_at v l.0 in_v l.1) b)

    reached_by : (o : Option V) (y : V) → is_reached_by A.no_worse o y ≡ true →
        (z : V) × (o ≡ Some z) × IsTrue (A.no_worse z y)
    reached_by None y h = cc
    reached_by (Some z) y h = (z, refl, h)

    between : (l : Option V) (w : ℕ) (m : Option V) → is_tight_between A l w m ≡ true →
        (x y z : V) × (l ≡ Some x) × (m ≡ Some y) × (A.extend x w ≡ Some z) × IsTrue (A.no_worse z y)
    between None w m h = cc
    between (Some x) w None h = cc
    between (Some x) w (Some y) h = let r = reached_by (A.extend x w) y h in (x, y, r.0, refl, refl, r.1, r.2)

    -- what the labels say of an arc
    pub tight_is : (a : ℕ) → HasArc g a → is_tight A g labels a ≡ true ↔ IsTight A g sources a
    tight_is a h =
        let ends = roads.ends a h in (
          λ t.
              let b = between (label_of labels (arc_of g a).tail) (arc_of g a).weight
              (label_of labels (arc_of g a).head) t in
              let at_tail = best_at (arc_of g a).tail b.0 ends.0 b.3 in
              let at_head = best_at (arc_of g a).head b.1 ends.1 b.4 in
              let no_worse = at_head.least b.2
              (IsWalkValue-extend A g sources (arc_of g a).tail a b.0 b.2 at_tail.attained h refl b.5) in
              record {
                arc = h;
                tail = b.0;
                head = b.1;
                tail_best = at_tail;
                head_best = at_head;
                extends = b.5 ∙ ap (λ (z : V). Some z) (lawful.ordered.antisymmetric b.2 b.1 b.6 no_worse);
              },
          λ t.
              let l = best_is_label (arc_of g a).tail t.tail ends.0 t.tail_best in
              let m = best_is_label (arc_of g a).head t.head ends.1 t.head_best in
              rw (l, m, t.extends) (same_no_worse A.no_worse lawful.ordered t.head),
        )

    module _ (in_s : (s : ℕ) → Contains sources s → HasVertex g s) (marks : List Bool)
        (marked_s : (s : ℕ) → Contains sources s → get_or marks (s - 1) false ≡ true)
        (closed : (a : ℕ) → HasArc g a → IsTight A g sources a →
        get_or marks ((arc_of g a).tail - 1) false ≡ true → get_or marks ((arc_of g a).head - 1) false ≡ true) where
      by_cases : (a : ℕ) → HasArc g a → (x n z t : V) → label_of labels (arc_of g a).tail ≡ Some x →
          label_of labels (arc_of g a).head ≡ Some n →
          A.extend x (arc_of g a).weight ≡ Some t → IsTrue (A.no_worse n t) → IsTrue (A.no_worse t z) →
          get_or marks ((arc_of g a).tail - 1) false ≡ true →
          ((w : ℕ) (l : V) → HasVertex g w → get_or marks (w - 1) false ≡ false →
          label_of labels w ≡ Some l → IsTrue (A.no_worse z l)) →
          (b : Bool) → get_or marks ((arc_of g a).head - 1) false ≡ b →
          get_or marks ((arc_of g a).head - 1) false ≡ true
      by_cases a h x n z t e f ex le to_z marked least true k = k
      by_cases a h x n z t e f ex le to_z marked least false k =
          let ends = roads.ends a h in
          let z_n : IsTrue (A.no_worse z n) = least (arc_of g a).head n ends.1 k f in
          let back : IsTrue (A.no_worse t n) = lawful.ordered.transitive t z n to_z z_n in
          closed a h (record {
            arc = h;
            tail = x;
            head = n;
            tail_best = best_at (arc_of g a).tail x ends.0 e;
            head_best = best_at (arc_of g a).head n ends.1 f;
            extends = ex ∙ ap (λ (q : V). Some q) (lawful.ordered.antisymmetric t n back le);
          }) marked

      -- on a walk from a marked vertex to the best unmarked one there is no first unmarked vertex
      crosses : (u : ℕ) (p : List ℕ) (v : ℕ) (x z : V) → HasVertex g u → HasVertex g v →
          get_or marks (u - 1) false ≡ true → label_of labels u ≡ Some x →
          IsWalk g u p v → label_of labels v ≡ Some z →
          (y : V) → IsTrue (A.is_value y) → IsTrue (A.no_worse x y) → Extends A g y p z →
          ((w : ℕ) (l : V) → HasVertex g w → get_or marks (w - 1) false ≡ false →
          label_of labels w ≡ Some l → IsTrue (A.no_worse z l)) →
          get_or marks (v - 1) false ≡ true
      crosses u [] v x z in_u in_v marked e w f y iy le ex least =
          ap (λ (k : ℕ). get_or marks (k - 1) false) (sym w) ∙ marked
      crosses u (a ∷ p) v x z in_u in_v marked e w f y iy le ex least =
          let weight = (arc_of g a).weight in
          let fits : weight < 2 ^ 32 = roads.weights a w.0 in
          let ends = roads.ends a w.0 in
          let best_u = best_at u x in_u e in
          let ix : IsTrue (A.is_value x) = walk_value_is_value A lawful g roads sources u x best_u.attained in
          let at_tail : label_of labels (arc_of g a).tail ≡ Some x = ap (label_of labels) w.1 ∙ e in
          let marked_tail : get_or marks ((arc_of g a).tail - 1) false ≡ true =
          ap (λ (k : ℕ). get_or marks (k - 1) false) w.1 ∙ marked in
          let passed = lawful.monotone x y weight ex.0 ix iy fits le ex.1 in
          let next = labelled (arc_of g a).head (label_of labels (arc_of g a).head) ends.1 refl passed.0
          (IsWalkValue-extend A g sources u a x passed.0 best_u.attained w.0 w.1 passed.1) in
          let iy_next : IsTrue (A.is_value ex.0) = lawful.extend_is_value y weight ex.0 iy fits ex.1 in
          let to_end : IsTrue (A.no_worse ex.0 z) =
          never_better_along (arc_of g a).head p v ex.0 z w.2 iy_next ex.2 in
          let marked_head : get_or marks ((arc_of g a).head - 1) false ≡ true =
          by_cases a w.0 x next.0 z passed.0 at_tail next.1 passed.1 next.2
          (lawful.ordered.transitive passed.0 ex.0 z passed.2 to_end) marked_tail least
          (get_or marks ((arc_of g a).head - 1) false) refl in
          crosses (arc_of g a).head p v next.0 z ends.1 in_v marked_head next.1 w.2 f ex.0 iy_next
          (lawful.ordered.transitive next.0 passed.0 ex.0 next.2 passed.2) ex.2 least

      all_marked : (best : Option (ℕ × V)) → AnswersBestOpen A.no_worse labels marks g.vertices best →
          (v : ℕ) (x : V) → HasVertex g v → label_of labels v ≡ Some x →
          (b : Bool) → get_or marks (v - 1) false ≡ b → get_or marks (v - 1) false ≡ true
      all_marked best h v x in_v e true k = k
      all_marked None h v x in_v e false k =
          let lt : v - 1 < g.vertices = omega (arith, in_v.0, in_v.1) in
          let bad : None ≡ Some x = sym (h (v - 1) lt k) ∙ e in cc
      all_marked (Some p) h v x in_v e false k =
          let in_p : HasVertex g (p.0 + 1) = (omega arith, omega (arith, h.below)) in
          let back : p.0 + 1 - 1 ≡ p.0 = omega arith in
          let at_p : label_of labels (p.0 + 1) ≡ Some p.1 = rw back h.label in
          let best_p = best_at (p.0 + 1) p.1 in_p at_p in
          let from = best_p.attained.1 in
          let in_from = in_s from.0 from.1 in
          let at_s = labelled from.0 (label_of labels from.0) in_from refl A.origin
          ([], (from.0, from.1, refl), refl) in
          let hit = crosses from.0 best_p.attained.0 (p.0 + 1) at_s.0 p.1 in_from in_p (marked_s from.0 from.1)
          at_s.1 from.2 at_p A.origin lawful.origin_is_value at_s.2 best_p.attained.2
          (λ w l in_w o f. h.least (w - 1) (omega (arith, in_w.0, in_w.1)) l o f) in
          let miss : get_or marks (p.0 + 1 - 1) false ≡ false = rw back h.is_open in
          let bad : true ≡ false = sym hit ∙ miss in cc

      -- marks that the sources have and that tight arcs pass on are at every vertex with a label
      pub tight_arcs_reach : (v : ℕ) (x : V) → HasVertex g v → label_of labels v ≡ Some x →
          get_or marks (v - 1) false ≡ true
      tight_arcs_reach v x in_v e =
          let best = best_open A.no_worse lawful.ordered labels marks g.vertices in
          all_marked best.0 best.1 v x in_v e (get_or marks (v - 1) false) refl

-- The trails of a network are the walks of its graph that pass no vertex twice.
use Rattle.scholten_core.proofs.Words.{◌≡◌, ℕ, ◌≤◌, Option, Some, List, [], ◌∷◌, ◌++◌, refl, sym, ap, ◌∙◌, subst, inl, inr, arith, Contains, GraphData, IsGraph, arc_of, not_in_empty, here, later, only_element, Algebra, IsLawful, IsWalk, Extends, Event, network, state_after, tail-arc, head-arc, weight-arc, real_arc, well_formed}
use Rattle.std.proofs.lemmas.List.Elements.{Contains-push_cases}
use Rattle.path_algebra.proofs.Walks.{IsWalk-snoc, Extends-snoc}
use Rattle.path_algebra.specs.SimpleWalks.{vertices_of, AreDistinct}
use Rattle.scholten_core.specs.SimpleWalks.{HasAtMost, KeepsUp, IsSimpleWalkValue, LabelsAreSimpleWalkValues, MessagesExtendSimpleWalks}
use Rattle.scholten_core.proofs.Trails.{Visits, IsTrail, reached_trails}

-- from the first arc to the last
forward : List ℕ → List ℕ
forward [] = []
forward (a ∷ p) = forward p ++ a ∷ []

vertices_of-snoc : (g : GraphData) (u : ℕ) (p : List ℕ) (a : ℕ) → vertices_of g u (p ++ a ∷ []) ≡ vertices_of g u p ++ (arc_of g a).head ∷ []
vertices_of-snoc g u [] a = refl
vertices_of-snoc g u (b ∷ p) a = ap (λ us. u ∷ us) (vertices_of-snoc g (arc_of g b).head p a)

distinct-snoc : (us : List ℕ) (v : ℕ) → AreDistinct us → (Contains us v → ⊥) → AreDistinct (us ++ v ∷ [])
distinct-snoc [] v d n = (not_in_empty v, tt)
distinct-snoc (u ∷ us) v d n = (
  (λ l. elim (Contains-push_cases us v u l) [ inl k ↦ d.0 k | inr e ↦ n (subst (λ w. Contains (u ∷ us) w) (sym e) (here u us)) ]),
  distinct-snoc us v d.1 (λ l. n (later u v us l)),
)

module _ {V : Type 0} (A : Algebra V) (g : GraphData) (s : ℕ) where
  KeepsUp-snoc : (label : ℕ → Option V) (u : ℕ) (x : V) (p : List ℕ) (y : V) (a : ℕ) → Extends A g x p y → KeepsUp A g label u x p →
      ((z : V) → A.extend y (arc_of g a).weight ≡ Some z → HasAtMost A label (arc_of g a).head z) → KeepsUp A g label u x (p ++ a ∷ [])
  KeepsUp-snoc label u x [] y a e k m = (k, λ z f. m z (ap (λ w. A.extend w (arc_of g a).weight) (sym e) ∙ f))
  KeepsUp-snoc label u x (b ∷ p) y a e k m = (
    k.0,
    λ z f. KeepsUp-snoc label (arc_of g b).head z p y a (let i : e.0 ≡ z = (let h = e.1 in cc) in subst (λ w. Extends A g w p y) i e.2) (k.1 z f) m,
  )

  -- a vertex that the forward walk passes is visited
  passed_visited : (label : ℕ → Option V) (p : List ℕ) (v : ℕ) (x : V) → IsTrail A (network g s) label p v x → (w : ℕ) → Contains (vertices_of g s (forward p)) w → Visits A (network g s) p w
  unfolding forward
  passed_visited label [] v x t w l = sym (only_element s w l)
  passed_visited label (a ∷ p) v x t w l =
      elim (Contains-push_cases (vertices_of g s (forward p)) (arc_of g a).head w (subst (λ us. Contains us w) (vertices_of-snoc g s (forward p) a) l)) [
        | inl k ↦ inr (passed_visited label p ((network g s).tail a) t.0 t.1 w k)
        | inr e ↦ inl (sym e ∙ sym (head-arc g s a (real_arc g a t.2).0))
      ]

  trail_leads : (label : ℕ → Option V) (p : List ℕ) (v : ℕ) (x : V) → IsTrail A (network g s) label p v x → IsWalk g s (forward p) v
  unfolding forward
  trail_leads label [] v x t = sym t.0
  trail_leads label (a ∷ p) v x t =
      let r = real_arc g a t.2 in
      subst (λ w. IsWalk g s (forward p ++ a ∷ []) w) (sym (t.3 ∙ head-arc g s a r.0))
      (IsWalk-snoc g s (forward p) ((network g s).tail a) a (trail_leads label p ((network g s).tail a) t.0 t.1) r (sym (tail-arc g a r.0)))

  trail_distinct : (label : ℕ → Option V) (p : List ℕ) (v : ℕ) (x : V) → IsTrail A (network g s) label p v x → AreDistinct (vertices_of g s (forward p))
  unfolding forward
  trail_distinct label [] v x t = (not_in_empty s, tt)
  trail_distinct label (a ∷ p) v x t =
      let r = real_arc g a t.2 in
      subst AreDistinct (sym (vertices_of-snoc g s (forward p) a))
      (distinct-snoc (vertices_of g s (forward p)) (arc_of g a).head (trail_distinct label p ((network g s).tail a) t.0 t.1)
      (λ l. t.5 (subst (λ w. Visits A (network g s) p w) (sym (t.3 ∙ head-arc g s a r.0)) (passed_visited label p ((network g s).tail a) t.0 t.1 (arc_of g a).head l))))

  trail_extends : (label : ℕ → Option V) (p : List ℕ) (v : ℕ) (x : V) → IsTrail A (network g s) label p v x → Extends A g A.origin (forward p) x
  unfolding forward
  trail_extends label [] v x t = sym t.1
  trail_extends label (a ∷ p) v x t =
      Extends-snoc A g A.origin (forward p) t.0 a x (trail_extends label p ((network g s).tail a) t.0 t.1) (ap (A.extend t.0) (sym (weight-arc g a (real_arc g a t.2).0)) ∙ t.4)

  trail_keeps_up : (label : ℕ → Option V) (p : List ℕ) (v : ℕ) (x : V) → IsTrail A (network g s) label p v x → KeepsUp A g label s A.origin (forward p)
  unfolding forward
  trail_keeps_up label [] v x t = subst (λ y. HasAtMost A label s y) t.1 (subst (λ w. HasAtMost A label w x) t.0 t.2)
  trail_keeps_up label (a ∷ p) v x t =
      let r = real_arc g a t.2 in
      KeepsUp-snoc label s A.origin (forward p) t.0 a (trail_extends label p ((network g s).tail a) t.0 t.1) (trail_keeps_up label p ((network g s).tail a) t.0 t.1)
      (λ z f. let i : x ≡ z = (let h = ap (A.extend t.0) (sym (weight-arc g a r.0)) ∙ t.4 in cc) in
      subst (λ y. HasAtMost A label (arc_of g a).head y) i (subst (λ w. HasAtMost A label w x) (t.3 ∙ head-arc g s a r.0) t.6))

  pub simple_value : (label : ℕ → Option V) (p : List ℕ) (v : ℕ) (x : V) → IsTrail A (network g s) label p v x → IsSimpleWalkValue A g s label v x
  simple_value label p v x t = record {
    walk = forward p;
    simple = (trail_leads label p v x t, trail_distinct label p v x t);
    value = trail_extends label p v x t;
    kept_up = trail_keeps_up label p v x t;
  }

  pub labels_are_simple : IsLawful A → IsGraph g → 1 ≤ s → (es : List Event) → LabelsAreSimpleWalkValues A g s (state_after A (network g s) es)
  labels_are_simple L R l es v x q =
      let t = (reached_trails A (network g s) L (well_formed g s R l) es).label v x q in
      simple_value (state_after A (network g s) es).label t.0 v x t.1

  pub messages_are_simple : IsLawful A → IsGraph g → 1 ≤ s → (es : List Event) → MessagesExtendSimpleWalks A g s (state_after A (network g s) es)
  messages_are_simple L R l es b x h q =
      let t = (reached_trails A (network g s) L (well_formed g s R l) es).message b x (λ z. let low = h.0 in omega arith) q in (
        t.1,
        subst (λ w. IsSimpleWalkValue A g s (state_after A (network g s) es).label w t.1) (tail-arc g b h.0) (simple_value (state_after A (network g s) es).label t.0 ((network g s).tail b) t.1 t.2),
        ap (A.extend t.1) (sym (weight-arc g b h.0)) ∙ t.4,
      )

-- The walks of a network are the walks of its graph, with the same values.
use Rattle.scholten_core.proofs.Words.{◌≡◌, ℕ, ◌<◌, Option, Some, None, List, [], ◌∷◌, refl, sym, ap, ◌∙◌, subst, arith, GraphData, IsGraph, arc_of, only_element, Algebra, IsWalk, Extends, IsWalkValue, network, tail-arc, head-arc, weight-arc, real_arc}
use Rattle.scholten_core.proofs.Walks.{Walk, along, along-none, IsValueAt}

module _ {V : Type 0} (A : Algebra V) (g : GraphData) (s : ℕ) where
  walk_of_graph : (u : ℕ) (p : List ℕ) (v : ℕ) → Walk A (network g s) u p v → IsWalk g u p v
  walk_of_graph u [] v w = w
  walk_of_graph u (a ∷ p) v w =
      let r = real_arc g a w.0 in
      (r, sym (tail-arc g a r.0) ∙ w.1, walk_of_graph (arc_of g a).head p v (subst (λ h. Walk A (network g s) h p v) (head-arc g s a r.0) w.2))

  walk_of_network : IsGraph g → (u : ℕ) (p : List ℕ) (v : ℕ) → IsWalk g u p v → Walk A (network g s) u p v
  walk_of_network R u [] v w = w
  walk_of_network R u (a ∷ p) v w = (
    (λ z. let low = (R.ends a w.0).0.0 in let q = tail-arc g a w.0.0 in omega (arith, low, q, z)),
    tail-arc g a w.0.0 ∙ w.1,
    subst (λ h. Walk A (network g s) h p v) (sym (head-arc g s a w.0.0)) (walk_of_network R (arc_of g a).head p v w.2),
  )

  extends_along : (u : ℕ) (p : List ℕ) (v : ℕ) (x y : V) → IsWalk g u p v → along A (network g s) (Some x) p ≡ Some y → Extends A g x p y
  extends_along u [] v x y w e = cc
  extends_along u (a ∷ p) v x y w e = go (A.extend x ((network g s).weight a)) refl e (λ z. extends_along (arc_of g a).head p v z y w.2)
    where
      go : (o : Option V) → A.extend x ((network g s).weight a) ≡ o → along A (network g s) o p ≡ Some y →
          ((z : V) → along A (network g s) (Some z) p ≡ Some y → Extends A g z p y) → Extends A g x (a ∷ p) y
      go None q f rest = absurd (let n = along-none A (network g s) p in cc)
      go (Some z) q f rest = (z, ap (A.extend x) (sym (weight-arc g a w.0.0)) ∙ q, rest z f)

  pub along_extends : (u : ℕ) (p : List ℕ) (v : ℕ) (x y : V) → IsWalk g u p v → Extends A g x p y → along A (network g s) (Some x) p ≡ Some y
  along_extends u [] v x y w e = ap Some e
  along_extends u (a ∷ p) v x y w e =
      ap (λ o. along A (network g s) o p) (ap (A.extend x) (weight-arc g a w.0.0) ∙ e.1) ∙ along_extends (arc_of g a).head p v e.0 y w.2 e.2

  pub value_in_graph : (v : ℕ) (x : V) → IsValueAt A (network g s) v x → IsWalkValue A g (s ∷ []) v x
  value_in_graph v x h =
      let w = walk_of_graph s h.0 v h.1 in
      (h.0, (s, (0, (let l : 0 < 1 = omega arith in l), refl), w), extends_along s h.0 v A.origin x w h.2)

  pub value_in_network : IsGraph g → (v : ℕ) (x : V) → IsWalkValue A g (s ∷ []) v x → IsValueAt A (network g s) v x
  value_in_network R v x h =
      let w : IsWalk g s h.0 v = subst (λ u. IsWalk g u h.0 v) (sym (only_element s h.1.0 h.1.1)) h.1.2 in
      (h.0, walk_of_network R s h.0 v w, along_extends s h.0 v A.origin x w h.2)

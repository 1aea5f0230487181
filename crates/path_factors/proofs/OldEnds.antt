-- Where a graph joins no other vertices than one that is factored, each of its arcs has an edge.
use Rattle.path_factors.proofs.Words.{◌≡◌, ℕ, List, inl, inr, ap, sym, subst, arith, GraphData, arc_of, FactorData, place_of, IsHead, IsJoined, IsOutline}
use Rattle.road_graph.specs.declared.RoadArc.{RoadArc}
use Rattle.path_factors.specs.Reweighing.{HasEdges, HasEndsOf, JoinsNoOthers}

module _ {W : Type 0} (h : GraphData) (F : FactorData W) (heads : List (List ℕ)) (outline : IsOutline h F.places heads) where
  abbrev Has : ℕ → ℕ → Type 0
  Has = IsHead heads

  -- a place is not less than itself
  joined_to_itself : (x y : ℕ) → x ≡ y → IsJoined Has x y
  joined_to_itself x y is = (λ less. absurd (omega (arith, is, less)), λ less. absurd (omega (arith, is, less)))

  -- the ends of an arc that joins the same two vertices as another
  joined_like : (a b : RoadArc) → HasEndsOf a b → IsJoined Has (place_of F b.tail) (place_of F b.head) →
      IsJoined Has (place_of F a.tail) (place_of F a.head)
  joined_like a b (inl same) joined =
      subst (λ (u : ℕ). IsJoined Has (place_of F u) (place_of F a.head)) (sym same.0)
      (subst (λ (v : ℕ). IsJoined Has (place_of F b.tail) (place_of F v)) (sym same.1) joined)
  joined_like a b (inr other) joined =
      subst (λ (u : ℕ). IsJoined Has (place_of F u) (place_of F a.head)) (sym other.0)
      (subst (λ (v : ℕ). IsJoined Has (place_of F b.head) (place_of F v)) (sym other.1) (joined.1, joined.0))

  -- each arc of the graph has an edge
  pub has_old_edges : (g : GraphData) → JoinsNoOthers g h → HasEdges g F.places heads
  has_old_edges g over a has = elim (over.ends a has) [
    | inl same ↦ joined_to_itself (place_of F (arc_of g a).tail) (place_of F (arc_of g a).head) (ap (place_of F) same)
    | inr old ↦ joined_like (arc_of g a) (arc_of h old.0) old.2 (outline.joined old.0 old.1)
  ]

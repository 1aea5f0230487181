-- The arcs in which some walk with a value ends are those along which the best value of the tail
-- extends.
use Rattle.std.proofs.Common.{◌≡◌, ℕ, Option, Some, None, List, [], ◌∷◌, Bool, is_some, refl, sym, subst}
use Rattle.shard_part.proofs.Words.{◌↔◌, IsTrue, Algebra, IsLawful, extend_label}
use Rattle.road_graph.specs.GraphData.{GraphData, IsGraph, HasVertex, HasArc, arc_of}
use Rattle.path_algebra.specs.Walks.{IsBest, IsBestLabel, IsWalkValue}
use Rattle.path_algebra.proofs.Walks.{walk_value_is_value}
use Rattle.scholten_core.specs.BestFirst.{AreMarksOfWalkEnds}

module _ {V : Type 0} (A : Algebra V) (L : IsLawful A) (g : GraphData) (R : IsGraph g) (s : ℕ) (labels : ℕ → Option V) (best : (v : ℕ) → HasVertex g v → IsBestLabel A g (s ∷ []) v (labels v)) where
  abbrev pub extends : ℕ → Bool
  extends a = is_some (extend_label A (labels (arc_of g a).tail) (arc_of g a).weight)

  abbrev IsWalkEnd : ℕ → Type 0
  IsWalkEnd a = (x : V) × (y : V) × IsWalkValue A g (s ∷ []) (arc_of g a).tail x × (A.extend x (arc_of g a).weight ≡ Some y)

  pub walk_ends_marked : AreMarksOfWalkEnds A g s extends
  walk_ends_marked a h = go (labels (arc_of g a).tail) refl (best (arc_of g a).tail (R.ends a h).0)
    where
      walked : (x : V) → IsWalkValue A g (s ∷ []) (arc_of g a).tail x → IsTrue (A.is_value x)
      walked x w = walk_value_is_value A L g R (s ∷ []) (arc_of g a).tail x w

      extended : (z : V) → IsBest A g (s ∷ []) (arc_of g a).tail z → (o : Option V) → A.extend z (arc_of g a).weight ≡ o → IsTrue (is_some o) ↔ IsWalkEnd a
      extended z b (Some y) e = ((λ t. (z, y, b.attained, e)), λ r. refl)
      extended z b None e = (
        (λ t. absurd (let n = t in cc)),
        λ r. absurd (
            let m = L.monotone z r.0 (arc_of g a).weight r.1 (walked z b.attained) (walked r.0 r.2) (R.weights a h) (b.least r.0 r.2) r.3 in
            let n = m.1 in cc),
      )

      go : (o : Option V) → labels (arc_of g a).tail ≡ o → IsBestLabel A g (s ∷ []) (arc_of g a).tail o → IsTrue (extends a) ↔ IsWalkEnd a
      go (Some z) e b = subst (λ o. IsTrue (is_some (extend_label A o (arc_of g a).weight)) ↔ IsWalkEnd a) (sym e) (extended z b (A.extend z (arc_of g a).weight) refl)
      go None e b = subst (λ o. IsTrue (is_some (extend_label A o (arc_of g a).weight)) ↔ IsWalkEnd a) (sym e) ((λ t. absurd (let n = t in cc)), λ r. absurd (b r.0 r.2))

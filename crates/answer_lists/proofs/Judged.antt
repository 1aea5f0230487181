-- A verdict on lists is one on the lines that they spell.
use Rattle.answer_lists.proofs.Words.{ℕ, List, refl, Option, Some, None, All, GraphData, IsGraph, HasVertex, Algebra, IsLawful, HavePlaces}
use Rattle.path_algebra.proofs.Walks.{all_inside}
use Rattle.answer_text.specs.IsAnswer.{AreVertexLines}
use Rattle.answer_check.specs.declared.place.Place.{Place}
use Rattle.answer_check.specs.declared.verdict.Reason.{Reason}
use Rattle.answer_check.specs.Places.{IsJudgedAt}
use Rattle.answer_check.specs.Reasons.{IsLineRefused}
use Rattle.answer_check.proofs.Certified.{lines_are_certified}
use Rattle.answer_check.proofs.FirstPlaces.{certified_not_refused}
use Rattle.answer_lists.specs.Tree.{lines_of, AreJudged, AreTreeLists}

module _ {V : Type 0} (A : Algebra V) (lawful : IsLawful A) (g : GraphData) (roads : IsGraph g) (sources : List ℕ) (inside : All (HasVertex g) sources)
    (codes hops parents : List ℕ) (places : HavePlaces g.vertices codes hops parents) where
  -- a line that something speaks against is not the tree's
  not_the_tree : (v : ℕ) (r : Reason) → HasVertex g v → IsLineRefused A g sources (lines_of codes hops parents) v r → AreTreeLists A g sources codes hops parents → ⊥
  not_the_tree v r in_v refused told =
      let certified = lines_are_certified A lawful g roads sources (all_inside g sources inside) (lines_of codes hops parents) told.lines in
      certified_not_refused A lawful g (lines_of codes hops parents) sources v (certified.each v in_v) r refused

  pub tree_judged : (o : Option Place) →
      IsJudgedAt (AreVertexLines A g sources (lines_of codes hops parents)) (λ v r. HasVertex g v × IsLineRefused A g sources (lines_of codes hops parents) v r) o →
      AreJudged A g sources codes hops parents o
  tree_judged None right = record { places = places; lines = right }
  tree_judged (Some p) h = record {
    wrong = not_the_tree p.vertex p.reason h.0.0 h.0.1;
    vertex = h.0.0;
    reason = p.reason;
    number_is = refl;
    refused = h.0.1;
    first = λ u r earlier in_u refused. h.1 u r earlier (in_u, refused);
  }

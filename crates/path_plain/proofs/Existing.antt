-- Best values exist: the search runs to its end with the lists of arcs that every graph has.
use Rattle.path_plain.proofs.Words.{◌≡◌, ℕ, zero, suc, ◌+◌, ◌<◌, Bool, true, false, cond, List, [], ◌∷◌, length, set, replicate, refl, arith, Option, Some, None, sum_by-set, All, GraphData, IsGraph, HasVertex, Algebra, IsLawful, AreBest, offered, relaxed, IsBestOpen, AnswersBestOpen, AreOpening}
use Rattle.road_graph.specs.Making.{numbers_at}
use Rattle.road_graph.specs.declared.Side.TheVariants.{Tail}
use Rattle.road_graph.proofs.Numbers.{lists_from}
use Rattle.path_algebra.proofs.Least.{best_open}
use Rattle.path_plain.proofs.Known.{opening_none, opening_front}
use Rattle.path_plain.proofs.Rounds.{Between, unsettled, starting, round, ending}

module _ {V : Type 0} (A : Algebra V) (lawful : IsLawful A) (g : GraphData) (roads : IsGraph g) where
  -- the labels that the search starts with
  opening : (sources : List ℕ) → All (HasVertex g) sources → (labels : List (Option V)) × AreOpening A.origin g.vertices sources labels
  opening [] inside = (replicate g.vertices None, opening_none A.no_worse A.origin g.vertices)
  opening (s ∷ rest) inside =
      let in_s = inside 0 s (omega arith) in
      let others = opening rest (λ k d lt. inside (suc k) d (omega arith)) in
      (offered A.no_worse others.0 s A.origin, opening_front A.no_worse A.origin g.vertices rest others.0 others.1 s in_s.0 in_s.1)

  module _ (sources : List ℕ) (inside : All (HasVertex g) sources) where
    -- the round of the best open vertex leaves one vertex less to settle
    module _ (labels : List (Option V)) (settled : List Bool) (between : Between A g sources labels settled) (p : ℕ × V)
        (best : IsBestOpen A.no_worse labels settled (length labels) p.0 p.1) where
      abbrev out : List ℕ
      out = numbers_at Tail (p.0 + 1) 0 g.arcs

      next_between : Between A g sources (relaxed A g p.1 labels out) (set settled p.0 true)
      next_between = round A lawful g roads sources inside A.no_worse refl labels settled between p.0 p.1 (relaxed A g p.1 labels out) best (out, lists_from g (p.0 + 1), refl)

      one_less : unsettled (set settled p.0 true) + 1 ≡ unsettled settled
      one_less =
          let lt : p.0 < length settled = omega (arith, best.below, between.known.labels_count, between.known.settled_count) in
          let f = sum_by-set (λ b. cond b 0 1) settled p.0 true false lt in
          let was : unsettled (set settled p.0 true) + 1 ≡ unsettled settled + 0 = rw best.is_open at f in
          omega arith

    -- with n vertices to settle, of which o is the best that has a label
    settle_all : (n : ℕ) (labels : List (Option V)) (settled : List Bool) → Between A g sources labels settled → unsettled settled ≡ n →
        (o : Option (ℕ × V)) → AnswersBestOpen A.no_worse labels settled (length labels) o → (found : List (Option V)) × AreBest A g sources found
    settle_all n labels settled between count None none = (labels, ending A lawful g roads sources inside A.no_worse refl labels settled between none)
    settle_all zero labels settled between count (Some p) best = let less = one_less labels settled between p best in absurd (omega (arith, less))
    settle_all (suc n) labels settled between count (Some p) best =
        let less = one_less labels settled between p best in
        let next = relaxed A g p.1 labels (out labels settled between p best) in
        let marks = set settled p.0 true in
        let choice = best_open A.no_worse lawful.ordered next marks (length next) in
        settle_all n next marks (next_between labels settled between p best) (omega (arith, less)) choice.0 choice.1

    pub best_from_all : (best : List (Option V)) × AreBest A g sources best
    best_from_all =
        let first = opening sources inside in
        let settled = replicate g.vertices false in
        let open_one = best_open A.no_worse lawful.ordered first.0 settled (length first.0) in
        settle_all (unsettled settled) first.0 settled (starting A lawful g roads sources first.0 first.1) refl open_one.0 open_one.1

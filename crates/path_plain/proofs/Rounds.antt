-- The search between two vertices, and its end.
use Rattle.path_plain.proofs.Words.{◌≡◌, ℕ, ◌+◌, ◌-◌, ◌<◌, inl, inr, Bool, true, false, cond, List, [], length, get_or, set, replicate, sym, ◌∙◌, arith, Option, Some, None, cases_Bool, GraphData, IsGraph, HasVertex, arc_of, not_in_empty, Algebra, IsLawful, AreBest, IsBestOpen, AnswersBestOpen, AreOpening, Relaxes}
use Rattle.std.specs.Prelude.{All, sum_by}
use Rattle.path_algebra.proofs.Walks.{labels_are_best, all_inside}
use Rattle.path_plain.proofs.Known.{Search, search_start, search_pick}
use Rattle.path_plain.proofs.Offering.{search_relaxed}
pub use Rattle.path_plain.specs.Rounds.{Between}

module _ {V : Type 0} (A : Algebra V) (lawful : IsLawful A) (g : GraphData) (roads : IsGraph g) (sources : List ℕ) (inside : All (HasVertex g) sources) (settled : List Bool) (x : V) where
  pub search_ends : (labels : List (Option V)) → Search A g sources labels settled x [] → AnswersBestOpen A.no_worse labels settled g.vertices None → AreBest A g sources labels
  search_ends labels known none =
      labels_are_best A lawful g roads sources labels known.values
      (λ a h y u e f.
      let ends = roads.ends a h in
      elim (cases_Bool (get_or settled ((arc_of g a).tail - 1) false)) [
        | inr unsettled ↦ let lt : (arc_of g a).tail - 1 < g.vertices = omega (arith, ends.0.0, ends.0.1) in
            let bad : None ≡ Some y = sym (none ((arc_of g a).tail - 1) lt unsettled) ∙ e in cc
        | inl done ↦ elim (known.closed a h done) [ inl waits ↦ absurd (not_in_empty a waits) | inr c ↦ c y u e f ]
      ])
      (all_inside g sources inside)
      known.at_sources
      known.labels_count

abbrev pub unsettled : List Bool → ℕ
unsettled settled = sum_by (λ b. cond b 0 1) settled

module _ {V : Type 0} (A : Algebra V) (lawful : IsLawful A) (g : GraphData) (roads : IsGraph g) (sources : List ℕ) (inside : All (HasVertex g) sources)
    (order : V → V → Bool) (same : A.no_worse ≡ order)
    (labels : List (Option V)) (settled : List Bool) (between : Between A g sources labels settled) where
  pub round : (i : ℕ) (x : V) (next : List (Option V)) → IsBestOpen order labels settled (length labels) i x →
      Relaxes A g (i + 1) x labels next → Between A g sources next (set settled i true)
  round i x next best pass =
      let mine : IsBestOpen A.no_worse labels settled g.vertices i x = rw (same, ← between.known.labels_count) best in
      record {
        level = x;
        known = rw pass.2 (search_relaxed A lawful g roads sources inside (set settled i true) x pass.0 labels
            (search_pick A lawful g roads sources labels settled between.level x i pass.0 between.known mine pass.1));
      }

  pub ending : AnswersBestOpen order labels settled (length labels) None → AreBest A g sources labels
  ending none =
      search_ends A lawful g roads sources inside settled between.level labels between.known
      (λ j h. none j (rw between.known.labels_count h))

pub starting : {V : Type 0} (A : Algebra V) → IsLawful A → (g : GraphData) → IsGraph g → (sources : List ℕ) (labels : List (Option V)) → AreOpening A.origin g.vertices sources labels →
    Between A g sources labels (replicate g.vertices false)
starting A lawful g roads sources labels opening = record { level = A.origin; known = search_start A lawful g roads sources labels opening }

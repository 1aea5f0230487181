-- What is shown by one arc more.
use Rattle.answer_check.proofs.Words.{◌≡◌, ℕ, ◌+◌, ◌<◌, List, Bool, ◌||◌, length, get_or, take, ap, ◌∙◌, refl, sym, Option, list_any, OutRoad, Algebra, Reached, Evidence, evidence_of, all_evidence, either}
use Rattle.std.proofs.lemmas.List.Folds.{list_any_more}

module _ {V : Type 0} (A : Algebra V) (no_worse : V → V → Bool) (lines : List (Option Reached)) (r : Reached) (y : V) where
  pub all_evidence_more : (roads : List OutRoad) (i : ℕ) (road : OutRoad) → i < length roads → road ≡ get_or roads i road →
      all_evidence A no_worse lines r y (take (i + 1) roads) ≡ either (all_evidence A no_worse lines r y (take i roads)) (evidence_of A no_worse lines r y road)
  all_evidence_more roads i road lt e =
      let test : (Evidence → Bool) → OutRoad → Bool = λ field x. field (evidence_of A no_worse lines r y x) in
      let more = λ (p : OutRoad → Bool). list_any_more p roads i road lt ∙ ap (λ (x : OutRoad). list_any p (take i roads) || p x) (sym e) in
      let better = more (test (λ s. s.better)) in
      let supported = more (test (λ s. s.supported)) in
      let astray = more (test (λ s. s.astray)) in
      let nearer = more (test (λ s. s.nearer)) in
      let lesser = more (test (λ s. s.lesser)) in
      rw (better, supported, astray, nearer, lesser) refl

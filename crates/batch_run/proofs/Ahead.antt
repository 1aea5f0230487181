-- Questions that are solved as soon as the diffusion from their only source is gathered.
use Rattle.batch_run.proofs.Words.{◌≡◌, ◌≢◌, ℕ, ◌<◌, List, [], ◌∷◌, length, get_or, Option, Some, None, Result, Ok, refl, sym, ap, ◌∙◌, subst, IsSome, GraphData, Algebra, AreBest, Questions, Question, FromSource, asked_of, sources_of, any_of, in_sources, get_or-map, IsLabelling, Appends, Output, WrotePrefix, left_appends, answer_text}
use Rattle.road_files.specs.Asked.{of_source}
use Rattle.road_files.specs.declared.questions.Kind.{Kind}
use Rattle.road_files.specs.declared.questions.Kind.TheVariants as kinds
use Rattle.road_files.specs.declared.questions.Questions.TheVariants as variants
use Rattle.text_lines.specs.Written.{WritesText}
use Rattle.question_solvers.specs.Solved.{IsSolution, IsTextFor}
use Rattle.question_solvers.specs.declared.solved.Solved.{Solved}
use Rattle.batch_run.specs.Answered.{WroteAnswer}
use Rattle.batch_run.specs.Diffusions.{IsSolvedAhead, labels_in}
use Rattle.batch_run.specs.declared.solve.diffusion.Labelling.{Labelling}
use Rattle.batch_run.specs.declared.solve.diffusion.Labelling.TheVariants as labelling

-- where each question has one source, the one at a place is from there
from_one : (q : Questions) (i : ℕ) → (asked_of q).kind ≡ kinds.Sources → i < length (asked_of q).questions → (d : Question) → (s : ℕ) × (get_or (asked_of q).questions i d ≡ FromSource s)
from_one (variants.Sources vs) i kind low d =
    let at = in_sources (variants.Sources vs) i vs refl low in
    (get_or vs.items i (any_of vs.items i at), get_or-map of_source vs.items i (any_of vs.items i at) d at)
from_one (variants.Pairs ps) i kind low d = let bad : kinds.Pairs ≡ kinds.Sources = kind in cc
from_one (variants.Multi ls) i kind low d = let bad : kinds.Multi ≡ kinds.Sources = kind in cc

module _ (q : Questions) (i : ℕ) (low : i < length (asked_of q).questions) (d : Question) where
  -- where a question has not one source, it is of another kind
  pub not_single : (xs : List ℕ) → xs ≡ sources_of (get_or (asked_of q).questions i d) → length xs ≢ 1 → (asked_of q).kind ≢ kinds.Sources
  not_single xs are several kind =
      let one = from_one q i kind low d in
      several (ap (λ (l : List ℕ). length l) (are ∙ ap sources_of one.1))

  -- what is solved from the only source of the question at a place is that question
  pub solved_ahead : {V : Type 0} (A : Algebra V) (g : GraphData) (s : Solved V) → IsSolvedAhead A g (asked_of q).kind (sources_of (get_or (asked_of q).questions i d)) s →
      IsSolution A g (asked_of q).kind (get_or (asked_of q).questions i d) s
  solved_ahead A g s h =
      let one = from_one q i h.kind_is low d in
      let same : one.0 ∷ [] ≡ h.source ∷ [] = sym (ap sources_of one.1) ∙ h.sources_are in
      let source : one.0 ≡ h.source = cc in
      subst (λ (y : Question). IsSolution A g (asked_of q).kind y s) (sym (one.1 ∙ ap of_source source)) h.solved

module _ {V : Type 0} (A : Algebra V) (g : GraphData) (kind : Kind) (sources : List ℕ) where
  -- labels are kept for a question of another kind
  pub kept : (l : Labelling V) → kind ≢ kinds.Sources → IsLabelling A g kind sources l → IsSome (labels_in l)
  kept (labelling.Labels labels) other h = refl
  kept (labelling.Solved s) other h = absurd (other h.kind_is)

  -- and they are best
  pub best_kept : (l : Labelling V) (labels : List (Option V)) → IsLabelling A g kind sources l → labels_in l ≡ Some labels → AreBest A g sources labels
  best_kept (labelling.Labels own) labels h e = let same : own ≡ labels = cc in subst (AreBest A g sources) same h
  best_kept (labelling.Solved s) labels h e = let bad : None ≡ Some labels = e in cc

-- what was written from nothing on is the text of the right answer
pub text_written : {V X E : Type 0} (A : Algebra V) (g : GraphData) (q : Question) (old new : Output X) (r : Result (Unit {0}) E) (text : List ℕ) {u : Unit {0}} →
    old.written ≡ Some [] → new.written ≡ Some text → r ≡ Ok u → WroteAnswer A g q old new r → IsTextFor A g q text
text_written A g q old new r text none all done h =
    let whole : WrotePrefix old new (answer_text h.0) [] = subst (WritesText old new (answer_text h.0)) done h.2 in
    let grown = left_appends old new (answer_text h.0) whole in
    let from_none : Appends (Some []) new.written (answer_text h.0) = subst (λ o. Appends o new.written (answer_text h.0)) none grown in
    let all_of_it : Appends (Some []) (Some text) (answer_text h.0) = subst (λ o. Appends (Some []) o (answer_text h.0)) all from_none in
    (h.0, h.1, all_of_it)

-- Questions by their kind: the one at a place, what answers it, and which are no pairs.
use Rattle.std.proofs.Common.{◌≡◌, ◌≢◌, ℕ, ◌<◌, length, get_or, sym, ap, subst, ◌∙◌, refl, Option, Vec, Global}
use Rattle.std.specs.Prelude.{option_map}
use Rattle.std.proofs.lemmas.List.{get_or-map}
use Rattle.question_solvers.proofs.Words.{GraphData, Algebra}
use Rattle.route_tree.specs.Found.{IsPairFound, found_of}
use Rattle.route_tree.specs.declared.found.Found.{Found}
use Rattle.answer_text.specs.AnswerData.{PairAnswer}
use Rattle.answer_text.specs.IsAnswer.{IsAnswer}
use Rattle.road_files.specs.Asked.{AskWithin, IsVertexOf, Question, FromSource, BetweenPair, FromSources, asked_of, of_list, of_pair, of_source, sources_of}
use Rattle.road_files.proofs.QuestionLaws.{any_of, in_lists, in_pairs, in_sources}
use Rattle.road_files.specs.declared.questions.Kind.TheVariants as kinds
use Rattle.road_files.specs.declared.questions.Questions.{Questions}
use Rattle.road_files.specs.declared.questions.Questions.TheVariants as variants

pub no_pairs : (q : Questions) → ((ps : Vec (ℕ × ℕ) Global) → q ≡ variants.Pairs ps → ⊥) → (asked_of q).kind ≢ kinds.Pairs
no_pairs (variants.Sources vs) other e = let bad : kinds.Sources ≡ kinds.Pairs = e in cc
no_pairs (variants.Pairs ps) other e = other ps refl
no_pairs (variants.Multi ls) other e = let bad : kinds.Multi ≡ kinds.Pairs = e in cc

-- the question at a place of a list of pairs
pub pair_asked : (q : Questions) (i : ℕ) (ps : Vec (ℕ × ℕ) Global) (p : ℕ × ℕ) → q ≡ variants.Pairs ps → i < length (asked_of q).questions → p ≡ get_or ps.items i p → (d : Question) →
    get_or (asked_of q).questions i d ≡ BetweenPair p.0 p.1
pair_asked q i ps p e low is d =
    ap (λ (y : Questions). get_or (asked_of y).questions i d) e ∙ get_or-map of_pair ps.items i p d (in_pairs q i ps e low) ∙ ap of_pair (sym is)

-- of a list of sources
pub source_asked : (q : Questions) (i : ℕ) (vs : Vec ℕ Global) (x : ℕ) → q ≡ variants.Sources vs → i < length (asked_of q).questions → x ≡ get_or vs.items i x → (d : Question) →
    get_or (asked_of q).questions i d ≡ FromSource x
source_asked q i vs x e low is d =
    ap (λ (y : Questions). get_or (asked_of y).questions i d) e ∙ get_or-map of_source vs.items i x d (in_sources q i vs e low) ∙ ap of_source (sym is)

-- and of neither: its sources
pub list_asked : (q : Questions) (i : ℕ) → ((vs : Vec ℕ Global) → q ≡ variants.Sources vs → ⊥) → (asked_of q).kind ≢ kinds.Pairs → i < length (asked_of q).questions → (d : Question) →
    get_or (asked_of q).questions i d ≡ FromSources (sources_of (get_or (asked_of q).questions i d))
list_asked (variants.Sources vs) i other unpaired low d = absurd (other vs refl)
list_asked (variants.Pairs ps) i other unpaired low d = absurd (unpaired refl)
list_asked (variants.Multi ls) i other unpaired low d =
    let at = in_lists (variants.Multi ls) i ls refl low in
    let is = get_or-map of_list ls.items i (any_of ls.items i at) d at in
    is ∙ ap (λ (y : Question). FromSources (sources_of y)) (sym is)

-- what is found of a pair answers a question that asks for it
pub found_answers : {V : Type 0} (A : Algebra V) (g : GraphData) (s t : ℕ) (found : Option Found) (q : Question) → q ≡ BetweenPair s t → IsPairFound A g s t found →
    IsAnswer A g q (PairAnswer s t (option_map found_of found))
found_answers A g s t found q is right = subst (λ (x : Question). IsAnswer A g x (PairAnswer s t (option_map found_of found))) (sym is) (refl, refl, right)

-- its source and its target are vertices of the graph
pub pair_within : (n : ℕ) (q : Questions) (i : ℕ) (ps : Vec (ℕ × ℕ) Global) (p : ℕ × ℕ) → AskWithin n q → q ≡ variants.Pairs ps → i < length (asked_of q).questions → p ≡ get_or ps.items i p →
    IsVertexOf n p.0 × IsVertexOf n p.1
pair_within n q i ps p within e low is =
    let all = subst (λ (y : Questions). AskWithin n y) e within in
    let one = all i p (in_pairs q i ps e low) in
    subst (λ (y : ℕ × ℕ). IsVertexOf n y.0 × IsVertexOf n y.1) (sym is) (one.0, one.1)

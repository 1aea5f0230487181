-- What questions are solved to: a pair to its answer, and sources to best labels and their tree, or
-- to the text of their answer.
use Rattle.std.specs.Prelude.{◌≡◌, ◌≢◌, ℕ, ◌<◌, ◌-◌, List, length, get_or, slice_get, All, Option, Result, OnOk}
use Rattle.std.specs.Option.{IsSomeAnd}
use Rattle.road_graph.specs.GraphData.{GraphData}
use Rattle.road_files.specs.Asked.{Asked, Question, sources_of}
use Rattle.road_files.specs.declared.questions.Kind.{Kind}
use Rattle.road_files.specs.declared.questions.Kind.TheVariants.{Pairs}
use Rattle.path_algebra.specs.Algebra.{Algebra}
use Rattle.path_algebra.specs.Walks.{AreBest}
use Rattle.route_tree.specs.Tree.{Branches, IsTree}
use Rattle.answer_text.specs.AnswerData.{AnswerData, answer_data}
use Rattle.answer_text.specs.AnswerText.{answer_text}
use Rattle.answer_text.specs.IsAnswer.{IsAnswer}
use Rattle.question_solvers.specs.declared.solved.Solved.{Solved}
use Rattle.question_solvers.specs.declared.solved.Solved.TheVariants as solved
use Rattle.question_solvers.specs.declared.searched.Searched.{Searched}

-- the labels are best from these sources, the tree is theirs, and the questions are no pairs
pub record IsTreeFrom {V : Type 0} (A : Algebra V) (g : GraphData) (kind : Kind) (sources : List ℕ) (list : List (Option V)) (branches : Branches) : Type 0 where
  pub labels : AreBest A g sources list
  pub tree : IsTree A g sources branches
  pub unpaired : kind ≢ Pairs

-- it is the text of the right answer to a question
abbrev pub IsTextFor : {V : Type 0} → Algebra V → GraphData → Question → List ℕ → Type 0
IsTextFor A g q text = (answer : AnswerData) × IsAnswer A g q answer × (text ≡ answer_text answer)

-- a question of this kind is solved: by its answer, by the text of it, or by what its answer is
-- written from
abbrev pub IsSolution : {V : Type 0} → Algebra V → GraphData → Kind → Question → Solved V → Type 0
IsSolution A g kind q (solved.Tree labels tree) = IsTreeFrom A g kind (sources_of q) labels tree
IsSolution A g kind q (solved.Answer answer) = IsAnswer A g q (answer_data answer)
IsSolution A g kind q (solved.Text text) = IsTextFor A g q text.items

-- the question at a place is
abbrev pub IsSolvedFor : {V : Type 0} → Algebra V → GraphData → Asked → ℕ → Solved V → Type 0
IsSolvedFor A g asked i s = (d : Question) → IsSolution A g asked.kind (get_or asked.questions i d) s

-- this was found for the question at a place, and solves it
pub record IsSearchedAt {V : Type 0} (A : Algebra V) (g : GraphData) (asked : Asked) (i : ℕ) (s : Searched V) : Type 0 where
  pub place : s.place ≡ i
  pub solved : IsSolvedFor A g asked i s.solved

-- it solves the question at its own place
pub record IsSearched {V : Type 0} (A : Algebra V) (g : GraphData) (asked : Asked) (s : Searched V) : Type 0 where
  pub place : s.place < length asked.questions
  pub solved : IsSolvedFor A g asked s.place s.solved

-- of these the next one is last
abbrev pub next_of : {V : Type 0} → List (Searched V) → Option (Searched V)
next_of ahead = slice_get ahead (length ahead - 1)

-- and it solves the question at a place
abbrev pub IsNext : {V : Type 0} → Algebra V → GraphData → Asked → ℕ → List (Searched V) → Type 0
IsNext A g asked i ahead = IsSomeAnd (next_of ahead) (λ next. IsSolvedFor A g asked i next.solved)

-- what waits once the question at a place was to be solved: each solves the question at its own
-- place, and after a success the next one solves this one
pub record SolvesNext {V E : Type 0} (A : Algebra V) (g : GraphData) (asked : Asked) (i : ℕ) (ahead : List (Searched V)) (outcome : Result (Unit {0}) E) : Type 0 where
  pub each : All (IsSearched A g asked) ahead
  pub next : OnOk outcome (IsNext A g asked i ahead)

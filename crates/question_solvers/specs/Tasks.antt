-- What contracts say of a task over a graph: its questions, and what was found for them.
use Rattle.std.specs.Prelude.{ℕ, List, All, Result, IfSome}
use Rattle.path_algebra.specs.declared.algebra.PathAlgebra.{Ghosts}
use Rattle.path_algebra.specs.Algebra.{Algebra}
use Rattle.path_algebra.specs.Carried.{IsCarried}
use Rattle.path_algebra.specs.Counted.{cost_of}
use Rattle.path_plain.specs.Searcher.{SearcherState}
use Rattle.road_files.specs.Asked.{asked_of}
use Rattle.route_tree.specs.Searchers.{IsSearcherOf}
use Rattle.question_solvers.specs.Questions.{HasPlace, ArePairs}
use Rattle.question_solvers.specs.Solved.{IsNext, IsSearched, IsSearchedAt, SolvesNext}
use Rattle.question_solvers.specs.Solvers.{IsPoolOf}
use Rattle.question_solvers.specs.declared.pair_solver.PairSolver.{PairSolver}
use Rattle.question_solvers.specs.declared.searched.Searched.{Searched}
use Rattle.question_solvers.specs.declared.task.TaskOver.{TaskOver}
use Rattle.question_solvers.specs.declared.task.FactoredTask.{FactoredTask}

module _ {S R V : Type 0} {G : Ghosts S V} (over : TaskOver S R V G) where
  -- a question of it stands at this place
  abbrev pub IsPlaceIn : ℕ → Type 0
  IsPlaceIn = HasPlace over.task.now.questions.now

  -- its questions are pairs
  abbrev pub ArePairsIn : Type 0
  ArePairsIn = ArePairs over.task.now.questions.now

  -- it searches the graph by the algebra
  abbrev pub IsSearcherIn : SearcherState S V → Type 0
  IsSearcherIn = IsSearcherOf over.task.now.algebra over.graph.now

  -- so does each of a pool
  abbrev pub IsPoolIn : List (PairSolver S V) → Type 0
  IsPoolIn = IsPoolOf over.task.now.algebra over.graph.now

module _ {S R V : Type 0} {G : Ghosts S V} (meaning : S → Algebra V) (over : TaskOver S R V G) where
  -- this was found for the question at a place, and solves it
  abbrev pub IsFoundIn : ℕ → Searched V → Type 0
  IsFoundIn = IsSearchedAt (meaning over.task.now.algebra) over.graph.now (asked_of over.task.now.questions.now)

  -- each of these solves the question at its own place
  abbrev pub AreFoundIn : List (Searched V) → Type 0
  AreFoundIn = All (IsSearched (meaning over.task.now.algebra) over.graph.now (asked_of over.task.now.questions.now))

  -- and the next one the one at this place
  abbrev pub IsNextIn : ℕ → List (Searched V) → Type 0
  IsNextIn = IsNext (meaning over.task.now.algebra) over.graph.now (asked_of over.task.now.questions.now)

  -- so they do, if it was solved with this outcome
  abbrev pub SolvesNextIn : {E : Type 0} → ℕ → List (Searched V) → Result (Unit {0}) E → Type 0
  SolvesNextIn = SolvesNext (meaning over.task.now.algebra) over.graph.now (asked_of over.task.now.questions.now)

  -- what each of a pool found, if anything, solves the question at its own place
  abbrev pub HaveFoundIn : List (PairSolver S V) → Type 0
  HaveFoundIn = All (λ s. IfSome s.found (IsSearched (meaning over.task.now.algebra) over.graph.now (asked_of over.task.now.questions.now)))

-- its factors are for costs that carry the values of its algebra
abbrev pub IsCarriedIn : {S R V : Type 0} {G : Ghosts S V} → (S → Algebra V) → FactoredTask S R V G → Type 0
IsCarriedIn meaning factored = IsCarried (meaning factored.over.now.task.now.algebra) (cost_of factored.factors.now.algebra.cost)

-- Which texts the answers of a service may give to what is asked, where `may_answer` says what its
-- gate may answer.
use Rattle.std.specs.Prelude.{ℕ, Bool, List}
use Rattle.road_graph.specs.GraphData.{GraphData}
use Rattle.road_files.specs.Asked.{Asked}
use Rattle.path_algebra.specs.declared.algebra.PathAlgebra.{Ghosts}
use Rattle.path_algebra.specs.Algebra.{Algebra}
use Rattle.batch_run.specs.declared.solve.Solver.{Solver}
use Rattle.service.specs.declared.batch_answers.BatchAnswers.{BatchAnswers}
use Rattle.service.specs.Answering.{MayAnswer, MayAnswerBy}

-- if this solver answers
abbrev pub MayGive : {S R T V : Type 0} {G : Ghosts S V} → (S → Algebra V) → (T → ℕ → ℕ → Bool → Type 0) → BatchAnswers S R T V G → Solver S V G → Asked → List ℕ → Type 0
MayGive meaning may_answer answers = MayAnswerBy (meaning answers.algebra) answers.run.now.settings.now (may_answer answers.run.now.gate.now)

-- if the solver that the settings choose answers over this graph
abbrev pub MayGiveOver : {S R T V : Type 0} {G : Ghosts S V} → (S → Algebra V) → (T → ℕ → ℕ → Bool → Type 0) → BatchAnswers S R T V G → GraphData → Asked → List ℕ → Type 0
MayGiveOver meaning may_answer answers = MayAnswer (meaning answers.algebra) answers.run.now.settings.now (may_answer answers.run.now.gate.now)

-- Which texts may answer a request: those that a batch writes.
use Rattle.std.specs.Prelude.{◌≡◌, ◌≢◌, ℕ, ◌<◌, ◌⊎◌, Bool, true, List, [], ◌++◌, length, take}
use Rattle.road_graph.specs.GraphData.{GraphData}
use Rattle.road_files.specs.Asked.{Asked}
use Rattle.path_algebra.specs.declared.algebra.PathAlgebra.{Ghosts}
use Rattle.path_algebra.specs.Algebra.{Algebra}
use Rattle.answer_text.specs.AnswerData.{AnswerData, AnswerList}
use Rattle.answer_text.specs.IsAnswer.{AreAnswers, IsAnswerList}
use Rattle.answer_text.specs.AnswerText.{answers_text}
use Rattle.batch_run.specs.Answered.{begun_text}
use Rattle.worker_fleet.specs.Stops.{Says}
use Rattle.batch_run.specs.Causes.{MayStop, number_of}
use Rattle.batch_run.specs.declared.cause.Cause.{Cause}
use Rattle.batch_run.specs.declared.cause.Cause.TheVariants.{Write}
use Rattle.batch_settings.specs.declared.settings.Settings.{Settings}
use Rattle.batch_run.specs.declared.solve.Solver.{Solver}
use Rattle.batch_settings.specs.Choice.{without_diffusions}
use Rattle.batch_run.specs.Stopping.{IsEnoughFor}
use Rattle.batch_run.specs.Solvers.{graph_of, is_without_diffusions}
use Rattle.service.specs.Replies.{fault_text}

-- the right answers, as a batch writes them
abbrev pub IsAnswered : {V : Type 0} → Algebra V → GraphData → Asked → List ℕ → Type 0
IsAnswered A g asked text =
    (told : AnswerList) × IsAnswerList A g asked told × (text ≡ answers_text told)

-- The header, the right answers to the first questions, each whole, and then the fault that stopped
-- the run, which is no failed write. They are fewer than were asked, or memory ran out and none
-- were. With one shard, best first, the fault is no limit of turns that is enough for the arcs of
-- the graph.
pub record IsStopped {V : Type 0} (A : Algebra V) (undiffused : Bool) (how : Settings) (gate : ℕ → ℕ → Bool → Type 0) (g : GraphData) (asked : Asked) (text : List ℕ) : Type 0 where
  pub count : ℕ
  pub answers : List AnswerData
  pub right : AreAnswers A g (take count asked.questions) answers
  pub cause : Cause
  pub fewer : ((number_of cause ≡ 3) × (asked.questions ≡ [])) ⊎ (count < length asked.questions)
  pub may : MayStop undiffused (Says gate how.workers how.turns) cause
  pub other : cause ≢ Write
  pub unstalled : how.shards ≡ 1 → how.best_first ≡ true → IsEnoughFor how g → number_of cause ≢ 40
  pub text_is : text ≡ begun_text A asked answers ++ fault_text (number_of cause) 0

-- which texts may reply to what is asked, with diffusions or without, where `gate` says what the
-- gate may answer to a worker before a turn
abbrev pub MayAnswerAs : {V : Type 0} → Algebra V → (undiffused : Bool) → Settings → (ℕ → ℕ → Bool → Type 0) → GraphData → Asked → List ℕ → Type 0
MayAnswerAs A undiffused how gate g asked text =
    IsAnswered A g asked text ⊎ IsStopped A undiffused how gate g asked text

-- which of them if the solver answers that the settings choose
abbrev pub MayAnswer : {V : Type 0} → Algebra V → Settings → (ℕ → ℕ → Bool → Type 0) → GraphData → Asked → List ℕ → Type 0
MayAnswer A how = MayAnswerAs A (without_diffusions how) how

-- which of them if this solver answers
abbrev pub MayAnswerBy : {S V : Type 0} {G : Ghosts S V} → Algebra V → Settings → (ℕ → ℕ → Bool → Type 0) → Solver S V G → Asked → List ℕ → Type 0
MayAnswerBy A how gate s = MayAnswerAs A (is_without_diffusions s) how gate (graph_of s)

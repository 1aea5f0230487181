-- Solvers between two questions.
use Rattle.std.specs.Prelude.{◌≡◌, ◌+◌, ℕ, Bool, true, false, Result, IfSome, IsSome, OnOk}
use Rattle.road_graph.specs.GraphData.{GraphData}
use Rattle.road_files.specs.Asked.{asked_of}
use Rattle.path_algebra.specs.declared.algebra.PathAlgebra.{Ghosts}
use Rattle.path_algebra.specs.Algebra.{Algebra}
use Rattle.batch_run.specs.declared.batch.Batch.{Batch}
use Rattle.batch_run.specs.Diffusions.{AreNext, sources_to_come}
use Rattle.question_solvers.specs.Solvers.{IsFactorReady, IsPlainReady}
use Rattle.batch_run.specs.declared.solve.Solver.{Solver}
use Rattle.batch_run.specs.declared.solve.Solver.TheVariants.{Plain, Factors, Workers}
use Rattle.batch_run.specs.declared.solve.workers.WorkerSolver.{WorkerSolver}

module _ {S R T V : Type 0} {G : Ghosts S V} (meaning : S → Algebra V) (batch : Batch S R T V G) (i : ℕ) where
  -- the workers': what waits was gathered, and goes on with the question at this place
  pub record IsWorkerReady (s : WorkerSolver V) : Type 0 where
    pub some : IsSome s.queue
    pub next : IfSome s.queue (AreNext (meaning batch.task.algebra) batch.settings.now s.graph (asked_of batch.task.questions.now).kind (sources_to_come (asked_of batch.task.questions.now).questions i 0))

  -- what a solver holds is right for the batch, and the question at this place is the next one
  abbrev pub IsReady : Solver S V G → Type 0
  IsReady (Plain s) = IsPlainReady meaning batch.task s
  IsReady (Factors s) = IsFactorReady meaning batch.task s
  IsReady (Workers s) = IsWorkerReady s

-- after the question at this place they are over the same graph, and after a success ready for the
-- next
pub record IsWorkerAfter {S R T V Y E : Type 0} {G : Ghosts S V} (meaning : S → Algebra V) (batch : Batch S R T V G) (i : ℕ) (old new : WorkerSolver V) (outcome : Result Y E) : Type 0 where
  pub graph : new.graph ≡ old.graph
  pub ready : OnOk outcome (IsWorkerReady meaning batch (i + 1) new)

-- the graph over which it solves
abbrev pub graph_of : {S V : Type 0} {G : Ghosts S V} → Solver S V G → GraphData
graph_of (Plain s) = s.graph
graph_of (Factors s) = s.plain.graph
graph_of (Workers s) = s.graph

-- it solves without diffusions
abbrev pub is_without_diffusions : {S V : Type 0} {G : Ghosts S V} → Solver S V G → Bool
is_without_diffusions (Plain s) = true
is_without_diffusions (Factors s) = true
is_without_diffusions (Workers s) = false

-- it is of one kind, over one graph, from the one moment to the other
pub record IsSameSolver {S V : Type 0} {G : Ghosts S V} (old new : Solver S V G) : Type 0 where
  pub graph : graph_of new ≡ graph_of old
  pub kind : is_without_diffusions new ≡ is_without_diffusions old

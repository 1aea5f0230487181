-- What a solver is once the solution that was borrowed from it is let go.
use Rattle.std.specs.Prelude.{ℕ, Result}
use Rattle.std.specs.Borrow.{Bor, Fml, MutBor, RattleType}
use Rattle.path_algebra.specs.declared.algebra.PathAlgebra.{Ghosts}
use Rattle.path_algebra.specs.Algebra.{Algebra}
use Rattle.question_solvers.specs.Lending.{Ends}
use Rattle.question_solvers.specs.declared.solved.Solved.{Solved}
use Rattle.batch_run.specs.contracts.solve.Solver as Solver
use Rattle.batch_run.specs.contracts.solve.workers.WorkerSolver as WorkerSolver
use Rattle.batch_run.specs.declared.batch.Batch.{Batch}
use Rattle.batch_run.specs.declared.solve.Solver.{Solver}
use Rattle.batch_run.specs.declared.solve.workers.WorkerSolver.{WorkerSolver}
use Rattle.batch_run.specs.Batches.{IsAfter}
use Rattle.batch_run.specs.Solvers.{IsWorkerAfter}

module _ (A V : RattleType) (G : Ghosts A.Denot V.Denot) {R T E : Type 0} (meaning : A.Denot → Algebra V.Denot) (batch : Batch A.Denot R T V.Denot G) (i : ℕ) where
  -- it is the same solver, and if there was a solution, ready for the question after this place
  abbrev pub EndsBatch : MutBor (Solver A.Denot V.Denot G) → Result (Bor (Solved V.Denot)) E → Fml
  EndsBatch s outcome = Ends (Solver.the_row A V G) s (λ n. IsAfter meaning batch i s.now n outcome)

  -- so are the workers
  abbrev pub EndsWorkers : MutBor (WorkerSolver V.Denot) → Result (Bor (Solved V.Denot)) E → Fml
  EndsWorkers s outcome = Ends (WorkerSolver.the_row V) s (λ n. IsWorkerAfter meaning batch i s.now n outcome)

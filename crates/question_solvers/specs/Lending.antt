-- What a solver is once the solution that was borrowed from it is let go.
use mathlib.Core.Option.{none}
use Rattle.std.specs.Prelude.{⊤}
use Rattle.std.specs.Borrow.{Fml, MutBor, RattleType, follows_so}
use Rattle.path_algebra.specs.declared.algebra.PathAlgebra.{Ghosts}
use Rattle.path_algebra.specs.Algebra.{Algebra}
use Rattle.question_solvers.specs.Solvers.{IsFactorAfter, IsPlainAfter}
use Rattle.question_solvers.specs.contracts.factor_solver.FactorSolver as FactorSolver
use Rattle.question_solvers.specs.contracts.plain_solver.PlainSolver as PlainSolver
use Rattle.question_solvers.specs.declared.factor_solver.FactorSolver.{FactorSolver}
use Rattle.question_solvers.specs.declared.plain_solver.PlainSolver.{PlainSolver}
use Rattle.question_solvers.specs.declared.task.Task.{Task}

-- a value behind a `&mut` ends so
abbrev pub Ends : (R : RattleType) → MutBor R.Denot → (R.Denot → Type 0) → Fml
Ends R s P = follows_so R R s.ghost_name none (λ _ _. ⊤) P

module _ (A V : RattleType) (G : Ghosts A.Denot V.Denot) {R : Type 0} (meaning : A.Denot → Algebra V.Denot) (task : Task A.Denot R V.Denot G) where
  -- the plain one is over its graph, and ready
  abbrev pub EndsPlain : MutBor (PlainSolver A.Denot V.Denot G) → Fml
  EndsPlain s = Ends (PlainSolver.the_row A V G) s (IsPlainAfter meaning task s.now)

  -- so is the factors' one
  abbrev pub EndsFactors : MutBor (FactorSolver A.Denot V.Denot G) → Fml
  EndsFactors s = Ends (FactorSolver.the_row A V G) s (IsFactorAfter meaning task s.now)

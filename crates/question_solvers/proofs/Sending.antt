-- A pair's searcher may go to another thread, with what it found, if values may.
use denote.RattleType.{RattleType}
use Rattle.question_solvers.proofs.Words.{NamedLft, crosses}
use denote.Param.Send.{IsSend, IsSync, sendable}
use Rattle.path_algebra.specs.declared.algebra.PathAlgebra.{Ghosts}
use Rattle.question_solvers.specs.contracts.pair_solver.PairSolver as PairSolver
use Rattle.question_solvers.specs.contracts.task.PairTask as PairTask

pub pair_solver_send : (A V : RattleType) (G : Ghosts A.Denot V.Denot) → IsSend A → IsSend V → IsSend (PairSolver.the_row A V G)
pair_solver_send A V G a v = search (sendable, crosses) depth 60 fits 100000

-- threads may share a task of pairs, if they may share its algebra and what starts them
pub pair_task_sync : (b : NamedLft) (A R V : RattleType) (G : Ghosts A.Denot V.Denot) → IsSync A → IsSync R → IsSync V → IsSync (PairTask.the_row b A R V G)
pair_task_sync b A R V G a r v = search (sendable, crosses) depth 60 fits 100000

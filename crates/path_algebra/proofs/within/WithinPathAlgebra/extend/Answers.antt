-- A must-fail edit breaks this goal: with an answer it is refused at once.
use Rattle.path_algebra.proofs.Words.{arith, common_steps}
use Rattle.path_algebra.proofs.within.WithinPathAlgebra.extend.Goals as goal

pub returns-in_default : goal.returns-in_default
returns-in_default c = grind (arith, common_steps)

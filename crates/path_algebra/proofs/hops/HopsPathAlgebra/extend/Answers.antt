-- A must-fail edit breaks this goal: with an answer it is refused at once.
use Rattle.path_algebra.proofs.Words.{arith, common_steps}
use Rattle.path_algebra.proofs.hops.HopsPathAlgebra.extend.Goals as goal

pub returns : goal.returns
returns c = grind (arith, common_steps)

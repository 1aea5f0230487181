-- A must-fail edit breaks this goal: with an answer it is refused at once.
use Rattle.path_plain.proofs.Words.{arith, common_steps}
use Rattle.path_plain.proofs.solve.solve_one.Goals as goal

pub returns : goal.returns
returns g c = grind (arith, common_steps)

-- A must-fail edit breaks this goal: with an answer it is refused at once.
use Rattle.path_algebra.proofs.Words.{arith, common_steps}
use Rattle.path_algebra.proofs.name.AlgebraName.text.Goals as goal

pub returns-in-Widest-clause-word : goal.returns-in-Widest-clause-word
returns-in-Widest-clause-word c = grind (arith, common_steps)

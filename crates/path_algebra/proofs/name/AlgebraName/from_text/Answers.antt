-- A must-fail edit breaks this goal: with an answer it is refused at once.
use Rattle.path_algebra.proofs.Words.{arith, common_steps}
use Rattle.path_algebra.proofs.name.AlgebraName.from_text.Goals as goal

pub returns-then-is_word-4 : goal.returns-then-is_word-4
returns-then-is_word-4 c = grind (arith, common_steps)

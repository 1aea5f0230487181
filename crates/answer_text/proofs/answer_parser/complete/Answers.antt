-- A must-fail edit breaks this goal: with an answer it is refused at once.
use Rattle.answer_text.proofs.Words.{arith, common_steps}
use Rattle.answer_text.proofs.answer_parser.complete.Goals as goal

pub returns-in-Between : goal.returns-in-Between
returns-in-Between c = grind (arith, common_steps)

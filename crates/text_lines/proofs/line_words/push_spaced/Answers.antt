-- A must-fail edit breaks this goal: with an answer it is refused at once.
use Rattle.text_lines.proofs.Words.{arith, common_steps}
use Rattle.text_lines.proofs.line_words.push_spaced.Goals as goal

pub returns-clause-bytes : goal.returns-clause-bytes
returns-clause-bytes c = grind (arith, common_steps)

-- A must-fail edit breaks this goal: with an answer it is refused at once.
use Rattle.text_lines.proofs.Words.{arith, common_steps}
use Rattle.text_lines.proofs.buffered.remove_prefix.Goals as goal

pub returns-clause-items : goal.returns-clause-items
returns-clause-items c = grind (arith, common_steps)

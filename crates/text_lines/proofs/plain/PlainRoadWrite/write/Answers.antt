-- A must-fail edit breaks this goal: with an answer it is refused at once.
use Rattle.text_lines.proofs.Words.{arith, common_steps}
use Rattle.text_lines.proofs.plain.PlainRoadWrite.write.Goals as goal

pub returns-in-Ok-clause-some : goal.returns-in-Ok-clause-some
returns-in-Ok-clause-some g c = grind (arith, common_steps)

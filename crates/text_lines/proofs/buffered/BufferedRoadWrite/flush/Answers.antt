-- A must-fail edit breaks this goal: with an answer it is refused at once.
use Rattle.text_lines.proofs.Words.{arith, common_steps}
use Rattle.text_lines.proofs.buffered.BufferedRoadWrite.flush.Goals as goal

pub returns-clause-empty : goal.returns-clause-empty
returns-clause-empty g c = grind (arith, common_steps)

-- A must-fail edit breaks this goal: with an answer it is refused at once.
use Rattle.std.proofs.Common.{arith}
use Rattle.std.proofs.lemmas.Grind.{common_steps}
use Rattle.batch_inputs.proofs.faults.File.text.Goals as goal

pub returns-in-Questions : goal.returns-in-Questions
returns-in-Questions c = grind (arith, common_steps)

-- A must-fail edit breaks this goal: with an answer it is refused at once.
use Rattle.scholten_core.proofs.Words.{arith, common_steps}
use Rattle.scholten_core.proofs.values.engaged_by.Goals as goal

pub returns-in-Some : goal.returns-in-Some
returns-in-Some c = grind (arith, common_steps)

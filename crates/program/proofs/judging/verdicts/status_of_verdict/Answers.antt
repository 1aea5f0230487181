-- A must-fail edit breaks this goal: with an answer it is refused at once.
use Rattle.program.proofs.Words.{arith, common_steps}
use Rattle.program.proofs.judging.verdicts.status_of_verdict.Goals as goal

pub returns-in-Invalid : goal.returns-in-Invalid
returns-in-Invalid c = grind (arith, common_steps)

use Rattle.program.proofs.Words.{arith, common_steps, spelled}
use Rattle.program.proofs.judging.verdicts.line_of_verdict.Goals as goal

pub returns-in-Invalid : goal.returns-in-Invalid
unfolding spelled
returns-in-Invalid c = grind (arith, common_steps)

-- A must-fail edit breaks this goal: with an answer it is refused at once.
use Rattle.answer_check.proofs.Words.{arith, common_steps}
use Rattle.answer_check.proofs.evidence.evidence_by.Goals as goal

pub returns-else-same-4 : goal.returns-else-same-4
returns-else-same-4 g c = grind (arith, common_steps)

pub returns-else-tail-line-2 : goal.returns-else-tail-line-2
returns-else-tail-line-2 g c = grind (arith, common_steps)

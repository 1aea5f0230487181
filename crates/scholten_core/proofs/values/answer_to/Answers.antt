-- A must-fail edit breaks this goal: with an answer it is refused at once.
use Rattle.scholten_core.proofs.Words.{arith, common_steps}
use Rattle.scholten_core.proofs.values.answer_to.Goals as goal

pub returns-in-None : goal.returns-in-None
returns-in-None g c = grind (arith, common_steps)

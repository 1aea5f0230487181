-- A must-fail edit breaks this goal: with an answer it is refused at once.
use Rattle.program.proofs.Words.{arith, common_steps}
use Rattle.program.proofs.judging.answers.algebra_named.Goals as goal

pub returns-in-Some-clause-limit : goal.returns-in-Some-clause-limit
returns-in-Some-clause-limit c = grind (arith, common_steps)

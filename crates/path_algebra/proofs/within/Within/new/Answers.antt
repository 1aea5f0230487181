-- A must-fail edit breaks this goal: with an answer it is refused at once.
use Rattle.path_algebra.proofs.Words.{arith, common_steps}
use Rattle.path_algebra.proofs.within.Within.new.Goals as goal

pub returns-then-limit-le-GREATEST-clause-limit : goal.returns-then-limit-le-GREATEST-clause-limit
returns-then-limit-le-GREATEST-clause-limit c = grind (arith, common_steps)

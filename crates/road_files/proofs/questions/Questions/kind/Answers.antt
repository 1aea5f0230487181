-- A must-fail edit breaks this goal: with an answer it is refused at once.
use Rattle.road_files.proofs.Words.{arith, common_steps}
use Rattle.road_files.proofs.questions.Questions.kind.Goals as goal

pub returns-in-Pairs : goal.returns-in-Pairs
returns-in-Pairs c = grind (arith, common_steps)

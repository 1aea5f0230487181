-- A must-fail edit breaks this goal: with an answer it is refused at once.
use Rattle.path_algebra.proofs.Words.{arith, common_steps}
use Rattle.path_algebra.proofs.labels.Labels.merge.Goals as goal

pub loop-i-preserved : goal.loop-i-preserved
loop-i-preserved g c = grind (arith, common_steps)

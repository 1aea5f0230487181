-- A must-fail edit breaks this goal: with an answer it is refused at once.
use Rattle.road_graph.proofs.Words.{arith, common_steps}
use Rattle.road_graph.proofs.bad_ends.first_bad.Goals as goal

pub loop-i-preserved : goal.loop-i-preserved
loop-i-preserved c = grind (arith, common_steps)

-- A must-fail edit breaks this goal: with an answer it is refused at once.
use Rattle.road_graph.proofs.Words.{arith, common_steps}
use Rattle.road_graph.proofs.graph.Graph.head.Goals as goal

pub returns : goal.returns
returns c = grind (arith, common_steps)

-- A must-fail edit breaks this goal: with an answer it is refused at once.
use Rattle.road_graph.proofs.Words.{arith, common_steps}
use Rattle.road_graph.proofs.graph.Graph.index.Goals as goal

pub invariant_of-self : goal.invariant_of-self
invariant_of-self c = grind (arith, common_steps)

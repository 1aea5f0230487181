-- A must-fail edit breaks this goal: with an answer it is refused at once.
use Rattle.route_tree.proofs.Words.{arith, common_steps}
use Rattle.route_tree.proofs.breadth_first.BreadthFirst.reach.Goals as goal

pub returns-in-Some : goal.returns-in-Some
returns-in-Some g c = grind (arith, common_steps)

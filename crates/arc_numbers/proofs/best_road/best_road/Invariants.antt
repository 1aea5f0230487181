use Rattle.arc_numbers.specs.BestRoad.{IsBestRoadOrNone}
use Rattle.arc_numbers.proofs.best_road.best_road.Given as goal

abbrev pub invariant-loop-i : goal.invariant-loop-i
invariant-loop-i g l = IsBestRoadOrNone (g.A.PathAlgebra.meaning l.algebra) l.x l.v l.roads l.i l.best

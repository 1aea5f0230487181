use Rattle.factor_routes.proofs.Words.{IsSome, AreBest, numbers_of}
use Rattle.halting.specs.Halting.{CanHalt}
use Rattle.factor_routes.proofs.Telling.{AreTold}
use Rattle.factor_routes.proofs.road_factors.RoadFactors.solve_with_tree_unless.Given as goal

abbrev pub invariant-loop-i : goal.invariant-loop-i
invariant-loop-i g l =
    AreTold (g.A.PathAlgebra.meaning l.algebra) l.self.roads l.sources l.i l.findings.values.items l.findings.hops.items l.findings.parents.items
    × AreBest (numbers_of l.self) l.self.roads l.sources l.numbers
    × (CanHalt l.halt → IsSome l.stop)

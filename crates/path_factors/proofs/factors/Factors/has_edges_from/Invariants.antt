use Rattle.path_factors.specs.Heads.{IsHead}
use Rattle.path_factors.proofs.Joining.{AreRoadsJoined}
use Rattle.path_factors.proofs.factors.Factors.has_edges_from.Given as goal

abbrev pub invariant-loop-road : goal.invariant-loop-road
invariant-loop-road g l = AreRoadsJoined (IsHead l.self.heads) l.self.factor.places l.fn.tail l.road-items l.road-index

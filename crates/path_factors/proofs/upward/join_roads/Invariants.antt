use Rattle.path_factors.specs.Chains.{HasValue, IsMore}
use Rattle.path_factors.proofs.Joining.{AreRoadsJoined}
use Rattle.path_factors.proofs.upward.join_roads.Given as goal

abbrev pub invariant-loop-road : goal.invariant-loop-road
invariant-loop-road l = record {
  more : IsMore l.graph.vertices l.fn.arcs l.arcs;
  joined : AreRoadsJoined (HasValue l.arcs) l.places l.fn.tail l.road-items l.road-index;
}

use Rattle.path_factors.proofs.Words.{◌≡◌, length, AreBelow, HasValue}
use Rattle.path_factors.proofs.Joining.{JoinedTo}
use Rattle.path_factors.proofs.upward.upward_arcs.Given as goal

abbrev pub invariant-loop-i : goal.invariant-loop-i
invariant-loop-i l = record {
  lists : length l.arcs.firsts ≡ l.graph.vertices;
  joined : JoinedTo (HasValue l.arcs) l.places l.graph l.i;
  below : AreBelow l.graph.vertices l.arcs;
}

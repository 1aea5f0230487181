use Rattle.road_graph.proofs.Words.{take, IsGraph, AreRoadRows}
use Rattle.std.specs.Prelude.{All}
use Rattle.road_graph.specs.Changing.{HasEnds, graph_after}
use Rattle.road_graph.proofs.out_graph.OutGraph.with_weights.Given as goal

abbrev pub invariant-loop-k : goal.invariant-loop-k
invariant-loop-k l = record {
  graph : IsGraph (graph_after (take l.k l.changes.items) l.self);
  rows : AreRoadRows l.self.vertices (graph_after (take l.k l.changes.items) l.self).arcs l.starts.items l.roads.items;
  known : All (HasEnds l.self) (take l.k l.changes.items);
}

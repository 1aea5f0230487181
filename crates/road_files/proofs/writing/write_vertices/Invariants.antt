use Rattle.road_files.proofs.Words.{drop, spaced, WrotePrefix}
use Rattle.road_files.proofs.writing.write_vertices.Given as goal

abbrev pub invariant-loop-vertex : goal.invariant-loop-vertex
invariant-loop-vertex g l = WrotePrefix (g.W.RoadWrite.seen l.fn.to) (g.W.RoadWrite.seen l.to)
    (spaced l.vertices) (spaced (drop l.vertex-index l.vertices))

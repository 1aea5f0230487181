use Rattle.route_tree.proofs.Words.{◌≡◌, None, replicate, take, IsMarked}
use Rattle.route_tree.proofs.breadth_first.BreadthFirst.open.Given as goal

abbrev pub invariant-loop-s : goal.invariant-loop-s
invariant-loop-s g l = record {
  over : l.search.over ≡ record { algebra = l.fn.algebra; roads = l.graph; labels = l.labels };
  region : l.search.region ≡ l.region;
  level : l.search.level ≡ 0;
  marked : IsMarked l.graph.vertices l.sources (take l.s-index l.sources) l.search.hops l.search.next;
  parents : l.search.parents ≡ replicate l.graph.vertices None;
}

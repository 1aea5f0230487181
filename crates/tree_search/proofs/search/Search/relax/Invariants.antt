use Rattle.tree_search.proofs.Words.{◌≡◌, ◌+◌, ◌≤◌, drop, IsSameSearch}
use Rattle.tree_search.proofs.Relaxing.{relaxed_by_roads}
use Rattle.tree_search.proofs.search.Search.relax.Given as goal

abbrev pub invariant-loop-road : goal.invariant-loop-road
invariant-loop-road g l = record {
  so_far : relaxed_by_roads (g.A.PathAlgebra.meaning l.algebra) l.fn.v l.fn.x l.fn.hops l.self.marks (drop l.road-index l.road-items)
      ≡ relaxed_by_roads (g.A.PathAlgebra.meaning l.algebra) l.fn.v l.fn.x l.fn.hops l.fn.self.marks l.road-items;
  same : IsSameSearch l.fn.self l.self;
  few : l.self.waiting ≤ l.fn.self.waiting + l.road-index;
}

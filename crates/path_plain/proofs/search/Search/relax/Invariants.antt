use Rattle.path_plain.proofs.Words.{◌≡◌, ◌+◌, ◌≤◌, drop, IsSameSearch}
use Rattle.path_plain.proofs.Offering.{relaxed_by_roads}
use Rattle.path_plain.proofs.search.Search.relax.Given as goal

abbrev pub invariant-loop-road : goal.invariant-loop-road
invariant-loop-road g l = record {
  so_far : relaxed_by_roads (g.A.PathAlgebra.meaning l.algebra) l.x l.self.labels (drop l.road-index l.road-items)
      ≡ relaxed_by_roads (g.A.PathAlgebra.meaning l.algebra) l.x l.fn.self.labels l.road-items;
  same : IsSameSearch l.fn.self l.self;
  few : l.self.waiting ≤ l.fn.self.waiting + l.road-index;
}

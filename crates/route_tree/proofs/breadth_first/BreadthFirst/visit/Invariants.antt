use Rattle.route_tree.proofs.Words.{◌≡◌, ℕ, ◌+◌, List, [], ◌∷◌, length, drop, ListsArcsFrom, roads_of, Visiting, unreached, IsSameSearch, passes}
use Rattle.route_tree.proofs.breadth_first.BreadthFirst.visit.Given as goal

abbrev pub invariant-loop-road : goal.invariant-loop-road
invariant-loop-road g l = record {
  goes : (sources pending numbers : List ℕ) → ListsArcsFrom l.fn.self.over.roads l.fn.v numbers → l.road-items ≡ roads_of l.fn.self.over.roads numbers →
      Visiting l.fn.self.over.roads (passes (g.A.PathAlgebra.meaning l.fn.self.over.algebra) l.fn.self) sources l.fn.self.level l.fn.self.hops l.fn.self.parents (l.fn.v ∷ pending) [] l.fn.self.next →
      Visiting l.fn.self.over.roads (passes (g.A.PathAlgebra.meaning l.fn.self.over.algebra) l.fn.self) sources l.fn.self.level l.self.hops l.self.parents pending
      (drop l.road-index numbers) l.self.next;
  same : IsSameSearch l.fn.self l.self;
  size : unreached l.self.hops + length l.self.next ≡ unreached l.fn.self.hops + length l.fn.self.next;
}

use Rattle.route_tree.proofs.Words.{CanHalt, ◌≡◌, ℕ, ◌+◌, List, [], length, drop, Visiting, unreached, IsSameSearch, passes}
use Rattle.route_tree.proofs.breadth_first.BreadthFirst.visit_all.Given as goal

abbrev pub invariant-loop-v : goal.invariant-loop-v
invariant-loop-v g l = record {
  goes : (sources : List ℕ) →
      Visiting l.fn.self.over.roads (passes (g.A.PathAlgebra.meaning l.fn.self.over.algebra) l.fn.self) sources l.fn.self.level l.fn.self.hops l.fn.self.parents l.list [] l.fn.self.next →
      Visiting l.fn.self.over.roads (passes (g.A.PathAlgebra.meaning l.fn.self.over.algebra) l.fn.self) sources l.fn.self.level l.self.hops l.self.parents (drop l.v-index l.list) [] l.self.next;
  same : IsSameSearch l.fn.self l.self;
  size : unreached l.self.hops + length l.self.next ≡ unreached l.fn.self.hops + length l.fn.self.next;
  kind : CanHalt l.halt → CanHalt l.fn.halt;
}

use Rattle.route_tree.proofs.Words.{CanHalt, ◌≡◌, ℕ, ◌+◌, [], length, drop, VisitingBack, unmarked, passes_back}
use Rattle.route_tree.proofs.backward.Backward.visit_all.Given as goal

abbrev pub invariant-loop-v : goal.invariant-loop-v
invariant-loop-v g l = record {
  goes : (target k : ℕ) → VisitingBack l.fn.self.over.roads (passes_back (g.A.PathAlgebra.meaning l.fn.self.over.algebra) l.fn.self) target k l.fn.self.marks l.list [] l.fn.self.next →
      VisitingBack l.fn.self.over.roads (passes_back (g.A.PathAlgebra.meaning l.fn.self.over.algebra) l.fn.self) target k l.self.marks (drop l.v-index l.list) [] l.self.next;
  over : l.self.over ≡ l.fn.self.over;
  size : unmarked l.self.marks + length l.self.next ≡ unmarked l.fn.self.marks + length l.fn.self.next;
  kind : CanHalt l.halt → CanHalt l.fn.halt;
}

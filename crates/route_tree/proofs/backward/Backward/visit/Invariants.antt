use Rattle.route_tree.proofs.Words.{◌≡◌, ℕ, ◌+◌, List, [], ◌∷◌, length, drop, map, Contains, ◌↔◌, HasArc, arc_of, road_of, reversed_arc, VisitingBack, unmarked, passes_back}
use Rattle.route_tree.proofs.backward.Backward.visit.Given as goal

abbrev pub invariant-loop-road : goal.invariant-loop-road
invariant-loop-road g l = record {
  goes : (target k : ℕ) (pending numbers : List ℕ) → ((a : ℕ) → Contains numbers a ↔ (HasArc l.fn.self.over.roads a × ((arc_of l.fn.self.over.roads a).head ≡ l.fn.v))) →
      l.road-items ≡ map (λ a. road_of (reversed_arc (arc_of l.fn.self.over.roads a))) numbers →
      VisitingBack l.fn.self.over.roads (passes_back (g.A.PathAlgebra.meaning l.fn.self.over.algebra) l.fn.self) target k l.fn.self.marks (l.fn.v ∷ pending) [] l.fn.self.next →
      VisitingBack l.fn.self.over.roads (passes_back (g.A.PathAlgebra.meaning l.fn.self.over.algebra) l.fn.self) target k l.self.marks pending (drop l.road-index numbers) l.self.next;
  over : l.self.over ≡ l.fn.self.over;
  size : unmarked l.self.marks + length l.self.next ≡ unmarked l.fn.self.marks + length l.fn.self.next;
}

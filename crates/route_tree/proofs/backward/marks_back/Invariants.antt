use Rattle.route_tree.proofs.Words.{CanHalt, ◌≡◌, ℕ, ◌+◌, [], length, is_tight, VisitingBack, unmarked}
use Rattle.route_tree.proofs.backward.marks_back.Given as goal

abbrev pub invariant-loop-search : goal.invariant-loop-search
invariant-loop-search g l = record {
  over : l.search.over ≡ record { algebra = l.fn.algebra; roads = l.by_head; labels = l.labels };
  visiting : (k : ℕ) × VisitingBack l.by_head (is_tight (g.A.PathAlgebra.meaning l.fn.algebra) l.by_head l.labels) l.fn.ends.1 k
      l.search.marks l.search.next [] [];
  kind : CanHalt l.halt → CanHalt l.fn.halt;
}

abbrev pub decreases-loop-search : goal.decreases-loop-search
decreases-loop-search g l = unmarked l.search.marks + length l.search.next

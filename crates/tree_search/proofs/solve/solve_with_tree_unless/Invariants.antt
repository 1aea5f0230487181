use Rattle.tree_search.proofs.Words.{◌≡◌, ◌+◌, ◌*◌, length, CanHalt, unsettled}
use Rattle.tree_search.proofs.Rounds.{Between}
use Rattle.tree_search.proofs.solve.solve_with_tree_unless.Given as goal

abbrev pub invariant-loop-search : goal.invariant-loop-search
invariant-loop-search g l = record {
  algebra : l.search.algebra ≡ l.fn.algebra;
  graph : l.search.roads ≡ l.graph;
  between : Between (g.A.PathAlgebra.meaning l.fn.algebra) l.graph l.sources l.search.marks l.search.settled;
  halt : CanHalt l.halt → CanHalt l.fn.halt;
}

abbrev pub decreases-loop-search : goal.decreases-loop-search
decreases-loop-search g l = unsettled l.search.settled * (length l.graph.arcs + 1) + l.search.waiting

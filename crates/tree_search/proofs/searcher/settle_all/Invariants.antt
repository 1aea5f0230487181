use Rattle.tree_search.proofs.Words.{◌≡◌, ◌+◌, ◌*◌, length, CanHalt, unsettled}
use Rattle.tree_search.proofs.Rounds.{Between}
use Rattle.tree_search.proofs.Listing.{AreListed}
use Rattle.tree_search.proofs.searcher.settle_all.Given as goal

abbrev pub invariant-loop-step : goal.invariant-loop-step
invariant-loop-step g l = record {
  algebra : l.search.algebra ≡ l.fn.algebra;
  graph : l.search.roads ≡ l.graph;
  between : Between (g.A.PathAlgebra.meaning l.fn.algebra) l.graph l.sources l.search.marks l.search.settled;
  listed : AreListed (g.A.PathAlgebra.meaning l.fn.algebra).no_worse l.graph l.search.marks l.search.settled l.reached.items;
  halt : CanHalt l.halt → CanHalt l.fn.halt;
}

abbrev pub decreases-loop-step : goal.decreases-loop-step
decreases-loop-step g l = unsettled l.search.settled * (length l.graph.arcs + 1) + l.search.waiting

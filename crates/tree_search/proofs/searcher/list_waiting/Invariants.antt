use Rattle.tree_search.proofs.Words.{◌≡◌, AreSettledOn}
use Rattle.tree_search.proofs.searcher.list_waiting.Given as goal

abbrev pub invariant-loop-step : goal.invariant-loop-step
invariant-loop-step g l = record {
  roads : l.search.roads ≡ l.fn.search.roads;
  settled : AreSettledOn l.fn.search.roads l.search.settled l.reached.items;
}

abbrev pub decreases-loop-step : goal.decreases-loop-step
decreases-loop-step g l = l.search.waiting

use Rattle.shard_store.proofs.Words.{List, ◌++◌, take, Item, IsBestWaiting}
use Rattle.shard_store.proofs.queue.holding.best_with.Given as goal

abbrev pub invariant-loop-i : goal.invariant-loop-i
invariant-loop-i g l = (waiting : List (Item g.row.A-Value.Denot)) → IsBestWaiting g.A.PathAlgebra.order waiting l.fn.best → IsBestWaiting g.A.PathAlgebra.order (waiting ++ take l.i l.items) l.best

use Rattle.std.specs.List.{AllWithin}
use Rattle.shard_store.specs.Queue.{IsWorseMessage}
use Rattle.shard_store.proofs.queue.holding.are_worse.Given as goal

abbrev pub invariant-loop-i : goal.invariant-loop-i
invariant-loop-i g l = AllWithin (IsWorseMessage g.A.PathAlgebra.order l.limit) l.items 0 l.i

use Rattle.std.proofs.Common.{◌≡◌, ◌++◌, length}
use Rattle.shard_store.proofs.queue.Queue.append.Given as goal

abbrev pub invariant-loop-item : goal.invariant-loop-item
invariant-loop-item g l = record {
  joined : l.self.items ++ l.other.items ≡ l.fn.self.items ++ l.fn.other.items;
  ranked : l.self.ranked ≡ l.fn.self.ranked;
  own : l.self.room ≡ l.fn.self.room;
  other : l.other.capacity ≡ l.fn.other.capacity;
}

abbrev pub decreases-loop-item : goal.decreases-loop-item
decreases-loop-item g l = length l.other.items

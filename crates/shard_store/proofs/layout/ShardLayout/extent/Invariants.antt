use Rattle.shard_store.proofs.Words.{placed, place_in, IsExtent}
use Rattle.shard_store.proofs.layout.ShardLayout.extent.Given as goal

abbrev pub invariant-loop-i : goal.invariant-loop-i
invariant-loop-i l = IsExtent (placed (place_in l.self.setup) l.self.shard 1 l.i) l.extent

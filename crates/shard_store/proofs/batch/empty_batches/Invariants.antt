use Rattle.std.proofs.Common.{◌≡◌, [], map, take, replicate}
use Rattle.shard_store.proofs.batch.empty_batches.Given as goal

abbrev pub invariant-loop-capacity : goal.invariant-loop-capacity
invariant-loop-capacity g l = (map (λ b. b.items) l.all.items ≡ replicate l.capacity-index []) × (map (λ b. b.capacity) l.all.items ≡ take l.capacity-index l.capacities)

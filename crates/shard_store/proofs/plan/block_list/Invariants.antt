use Rattle.std.proofs.Common.{◌≡◌, ℕ, ◌*◌, ◌/◌, ◌<◌, length, slice_index_or}
use Rattle.shard_store.proofs.plan.block_list.Given as goal

abbrev pub invariant-loop-i : goal.invariant-loop-i
invariant-loop-i l = (length l.list.items ≡ l.i) × ((k : ℕ) → k < l.i → (slice_index_or l.list.items k 0 ≡ k * l.s / l.n) × (slice_index_or l.list.items k 0 < l.s))

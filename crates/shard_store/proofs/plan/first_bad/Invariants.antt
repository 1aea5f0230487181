use Rattle.std.proofs.Common.{ℕ, ◌<◌, slice_index_or}
use Rattle.shard_store.proofs.plan.first_bad.Given as goal

abbrev pub invariant-loop-i : goal.invariant-loop-i
invariant-loop-i l = (k : ℕ) → k < l.i → slice_index_or l.list k 0 < l.s

use Rattle.std.proofs.Common.{◌≡◌, replicate}
use Rattle.shard_store.proofs.tables.filled.Given as goal

abbrev pub invariant-loop-i : goal.invariant-loop-i
invariant-loop-i g l = l.all.items ≡ replicate l._i l.value

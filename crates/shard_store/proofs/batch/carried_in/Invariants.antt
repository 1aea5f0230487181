use Rattle.shard_store.proofs.Words.{◌≡◌, drop, counted}
use Rattle.shard_store.proofs.batch.carried_in.Given as goal

abbrev pub invariant-loop-i : goal.invariant-loop-i
invariant-loop-i g l = counted l.arc (drop l.from l.items) ≡ counted l.arc (drop l.i l.items)

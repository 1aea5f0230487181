use Rattle.shard_store.proofs.Words.{◌≡◌, take, total}
use Rattle.shard_store.proofs.layout.sum_of.Given as goal

abbrev pub invariant-loop-number : goal.invariant-loop-number
invariant-loop-number l = l.sum ≡ total (λ n. n) (take l.number-index l.numbers)

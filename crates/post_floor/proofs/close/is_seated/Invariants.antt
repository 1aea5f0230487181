use Rattle.post_floor.proofs.Words.{◌≡◌, take, total, is}
use Rattle.post_floor.proofs.close.is_seated.Given as goal

abbrev pub invariant-loop-index : goal.invariant-loop-index
invariant-loop-index g l = total (λ d. is l.shard d.shard) (take l.index l.seats) ≡ 0

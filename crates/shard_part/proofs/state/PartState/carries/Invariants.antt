use Rattle.shard_part.proofs.Words.{◌≡◌, drop, counted}
use Rattle.shard_part.proofs.BatchFits.{outs_counted}
use Rattle.shard_part.proofs.state.PartState.carries.Given as goal

abbrev pub invariant-loop-out : goal.invariant-loop-out
invariant-loop-out g l = (counted l.arc l.self.queue ≡ 0) × (outs_counted l.arc l.self.outs ≡ outs_counted l.arc (drop l.out-index l.self.outs))

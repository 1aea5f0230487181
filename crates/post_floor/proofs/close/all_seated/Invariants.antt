use Rattle.post_floor.specs.Closing.{AllSeated}
use Rattle.post_floor.proofs.close.all_seated.Given as goal

abbrev pub invariant-loop-shard : goal.invariant-loop-shard
invariant-loop-shard g l = AllSeated l.shard l.seats

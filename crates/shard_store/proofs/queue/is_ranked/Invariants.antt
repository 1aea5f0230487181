use Rattle.shard_store.proofs.Words.{◌≡◌, drop, map, counted, ranked_item}
use Rattle.shard_store.proofs.queue.is_ranked.Given as goal

abbrev pub invariant-loop-i : goal.invariant-loop-i
invariant-loop-i g l = counted l.arc (map ranked_item l.ranked) ≡ counted l.arc (map ranked_item (drop l.i l.ranked))

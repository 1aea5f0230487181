use Rattle.shard_store.proofs.Words.{◌≡◌, ◌∷◌, placed, place_in}
use Rattle.shard_store.proofs.layout.ShardLayout.list_own.Given as goal

abbrev pub invariant-loop-i : goal.invariant-loop-i
invariant-loop-i l = l.own.items ≡ 0 ∷ placed (place_in l.self.setup) l.self.shard 1 l.i

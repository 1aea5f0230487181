use Rattle.shard_store.proofs.ShardLayouts.{planned_at}
use Rattle.shard_store.proofs.layout.ShardLayout.holds.Goals as goal

pub returns : goal.returns
returns c = planned_at _ c.args.self.now c.self.view_is c.self.invariant

use Rattle.shard_store.proofs.ShardLayouts.{first_is}
use Rattle.shard_store.proofs.layout.ShardLayout.is_first.Goals as goal

pub returns : goal.returns
returns c = first_is _ c.args.self.now c.shard_of.result c.eq.result c.self.view_is c.self.invariant c.shard_of.ensures.shard c.eq.ensures

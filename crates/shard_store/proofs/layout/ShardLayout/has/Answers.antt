use Rattle.shard_store.proofs.ShardLayouts.{has_is}
use Rattle.shard_store.proofs.layout.ShardLayout.has.Goals as goal

pub returns : goal.returns
returns c = has_is _ c.args.self.now c.args.v c.shard_of.result c.eq.result c.self.view_is c.requires c.shard_of.ensures.shard c.eq.ensures

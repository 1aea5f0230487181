use Rattle.std.proofs.Common.{◌∙◌, refl}
use Rattle.shard_store.proofs.ShardLayouts.{own_run}
use Rattle.shard_store.proofs.layout.ShardLayout.own_vertices.Goals as goal

pub returns-then-is_run : goal.returns-then-is_run
returns-then-is_run c = c.run.ensures ∙ own_run c.args.self.now c.extent-extent.result c.extent-extent.ensures.extent (c.if-is_run.ensures.0 refl)

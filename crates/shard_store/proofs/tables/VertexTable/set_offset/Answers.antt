use Rattle.shard_store.proofs.Records.{offset_written}
use Rattle.shard_store.proofs.tables.VertexTable.set_offset.Goals as goal

pub returns : goal.returns
returns g c = offset_written c.self.inside.rows.items c.args.self.now c.args.j c.index_mut.result.now c.args.offset c.self.view_is c.index_mut.ensures.value

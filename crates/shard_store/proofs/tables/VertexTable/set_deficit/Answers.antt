use Rattle.shard_store.proofs.Records.{deficit_written}
use Rattle.shard_store.proofs.tables.VertexTable.set_deficit.Goals as goal

pub returns : goal.returns
returns g c = deficit_written c.self.inside.rows.items c.args.self.now c.args.j c.index_mut.result.now c.args.deficit c.self.view_is c.index_mut.ensures.value

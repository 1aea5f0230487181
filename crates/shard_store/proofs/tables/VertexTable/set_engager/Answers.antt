use Rattle.shard_store.proofs.Records.{engager_written}
use Rattle.shard_store.proofs.tables.VertexTable.set_engager.Goals as goal

pub returns : goal.returns
returns g c = engager_written c.self.inside.rows.items c.args.self.now c.args.j c.index-row.result.now c.args.engager c.unwrap_or.result
    c.is_some.result c.self.view_is c.index-row.ensures c.unwrap_or.ensures c.is_some.ensures

use Rattle.shard_store.proofs.Records.{label_written}
use Rattle.shard_store.proofs.tables.VertexTable.set_label.Goals as goal

pub returns : goal.returns
returns g c = label_written c.self.inside.rows.items c.args.self.now c.args.j c.index-row.result.now c.args.label c.self.view_is c.index-row.ensures

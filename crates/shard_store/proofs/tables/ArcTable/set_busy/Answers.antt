use Rattle.shard_store.proofs.Records.{busy_written}
use Rattle.shard_store.proofs.tables.ArcTable.set_busy.Goals as goal

pub returns : goal.returns
returns g c = busy_written c.self.inside.marks.items c.self.inside.labels.items c.args.self.now c.args.i c.index_mut.result.now c.args.busy c.self.view_is c.index_mut.ensures.value

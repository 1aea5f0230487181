use Rattle.shard_store.proofs.Records.{vertices_idle}
use Rattle.shard_store.proofs.tables.VertexTable.idle.Goals as goal

pub returns : goal.returns
returns g c = vertices_idle c.in_ok-rows.rows.items c.args.n c.args.value c.in_ok-rows.ensures

use Rattle.shard_store.proofs.Records.{arcs_idle}
use Rattle.shard_store.proofs.tables.ArcTable.idle.Goals as goal

pub returns : goal.returns
returns g c = arcs_idle c.in_ok-marks.marks.items c.in_ok-labels.labels.items c.args.n c.args.value c.in_ok-marks.ensures c.in_ok-labels.ensures

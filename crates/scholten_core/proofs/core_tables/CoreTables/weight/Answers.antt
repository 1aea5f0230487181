use Rattle.std.proofs.Common.{ap}
use Rattle.scholten_core.proofs.GraphReads.{arc_weight}
use Rattle.scholten_core.proofs.core_tables.CoreTables.weight.Goals as goal

pub returns : goal.returns
returns g c = arc_weight _ _ c.args.a c.self.view_is _ c.requires.0 (ap (λ r. r.weight) c.arc.ensures)

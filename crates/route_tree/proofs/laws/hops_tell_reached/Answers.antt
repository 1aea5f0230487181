use Rattle.route_tree.proofs.Told.{hops_some, hops_none}
use Rattle.route_tree.proofs.laws.hops_tell_reached.Goals as goal

pub returns : goal.returns
returns g c = record { some = hops_some (g.A.PathAlgebra.meaning c.args._algebra); none = hops_none (g.A.PathAlgebra.meaning c.args._algebra) }

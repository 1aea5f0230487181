use Rattle.route_tree.proofs.Told.{told}
use Rattle.route_tree.proofs.laws.labels_and_trees_agree.Goals as goal

pub returns : goal.returns
returns g c = told (g.A.PathAlgebra.meaning c.args._algebra)

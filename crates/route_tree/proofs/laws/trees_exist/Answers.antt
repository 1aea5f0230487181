use Rattle.route_tree.proofs.Existing.{tree_exists}
use Rattle.route_tree.proofs.laws.trees_exist.Goals as goal

pub returns : goal.returns
returns g c = tree_exists (g.A.PathAlgebra.meaning c.args.algebra) c.laws_hold.ensures.lawful

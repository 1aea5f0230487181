use Rattle.std.proofs.Common.{[], ◌∷◌}
use Rattle.path_plain.proofs.UpTo.{best_up_to}
use Rattle.route_tree.proofs.routes.route_between.Goals as goal

pub route-requires-clause-labels : goal.route-requires-clause-labels
route-requires-clause-labels g c κs within =
    best_up_to (g.A.PathAlgebra.meaning c.args.algebra) c.laws_hold.ensures.lawful c.args.graph.now c.holds.ensures (c.args.pair.0 ∷ []) c.args.pair.1 c.requires.target c.args.labels.now c.requires.labels

use Rattle.path_algebra.proofs.Walks.{all_inside}
use Rattle.route_tree.proofs.Trees.{tree_is}
use Rattle.route_tree.proofs.tight_tree.tree_outgoing.Goals as goal

pub returns-in-Ok : goal.returns-in-Ok
returns-in-Ok g c =
    let G = c.args.graph.now in
    tree_is (g.A.PathAlgebra.meaning c.args.algebra) c.laws_hold.ensures.lawful G c.holds.ensures c.args.sources.now (all_inside G c.args.sources.now c.requires.sources)
    c.args.labels.now c.requires.labels c.in-Ok.tree.hops (rw (c.all-region.ensures) at c.in-Ok.ensures.hops) c.in-Ok.tree.parents (rw (c.all-region.ensures) at c.in-Ok.ensures.parents)

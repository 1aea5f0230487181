use Rattle.path_algebra.proofs.Walks.{labels_are_best, all_inside}
use Rattle.path_algebra.proofs.laws.closed_labels_are_best.Goals as goal

pub returns : goal.returns
returns g c = λ sources labels inside closed.
    labels_are_best (g.A.PathAlgebra.meaning c.args.algebra) c.laws_hold.ensures.lawful
    c.args.graph.now c.holds.ensures sources labels
    closed.values closed.not_improving (all_inside c.args.graph.now sources inside) closed.at_sources closed.count

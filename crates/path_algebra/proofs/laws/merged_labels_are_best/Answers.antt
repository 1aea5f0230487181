use Rattle.path_algebra.proofs.Least.{merged_are_best}
use Rattle.path_algebra.proofs.laws.merged_labels_are_best.Goals as goal

pub returns : goal.returns
returns g c = λ G xs ys ls ms ns h k n is.
    merged_are_best (g.A.PathAlgebra.meaning c.args.algebra) c.laws_hold.ensures.lawful
    G xs ys ls ms ns h k n (rw c.laws_hold.ensures.order is)

use Rattle.path_algebra.proofs.Walks.{all_inside}
use Rattle.path_algebra.proofs.Tight.{labelled, tight_arcs_reach}
use Rattle.path_algebra.proofs.Words.{label_of, refl}
use Rattle.path_algebra.proofs.laws.tight_arcs_reach.Goals as goal

pub returns : goal.returns
returns g c = λ sources labels marks inside best marked v x in_v walk.
    let A = g.A.PathAlgebra.meaning c.args.algebra in
    let lawful = c.laws_hold.ensures.lawful in
    let G = c.args.graph.now in
    let roads = c.holds.ensures in
    let l = labelled A lawful G roads sources labels best v (label_of labels v) in_v refl x walk in
    tight_arcs_reach A lawful G roads sources labels best (all_inside G sources inside)
    marks marked.at_sources marked.along v l.0 in_v l.1

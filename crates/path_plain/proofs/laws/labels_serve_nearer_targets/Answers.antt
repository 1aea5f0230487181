use Rattle.path_plain.proofs.Existing.{best_from_all}
use Rattle.path_plain.proofs.UpTo.{best_up_to, best_up_to_nearer, best_without}
use Rattle.path_plain.proofs.laws.labels_serve_nearer_targets.Goals as goal

pub returns-clause-every : goal.returns-clause-every
returns-clause-every g c = λ G roads sources target in_target labels best.
    best_up_to (g.A.PathAlgebra.meaning c.args.algebra) c.laws_hold.ensures.lawful G roads sources target in_target labels best

pub returns-clause-nearer : goal.returns-clause-nearer
returns-clause-nearer g c = λ G roads sources inside target other in_target in_other labels up y t at_other at_target le.
    let A = g.A.PathAlgebra.meaning c.args.algebra in
    let lawful = c.laws_hold.ensures.lawful in
    let whole = best_from_all A lawful G roads sources inside in
    best_up_to_nearer A lawful G roads sources whole.0 whole.1 labels target up other y t in_other at_other at_target (rw c.laws_hold.ensures.order le)

pub returns-clause-none : goal.returns-clause-none
returns-clause-none g c = λ G roads sources inside target in_target labels up none.
    let A = g.A.PathAlgebra.meaning c.args.algebra in
    let lawful = c.laws_hold.ensures.lawful in
    let whole = best_from_all A lawful G roads sources inside in
    best_without A lawful G roads sources whole.0 whole.1 labels target up none

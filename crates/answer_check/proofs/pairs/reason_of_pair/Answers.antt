use Rattle.answer_check.proofs.Words.{subst, IsLawful}
use Rattle.route_tree.specs.Found.{IsPairFound, found_of}
use Rattle.answer_check.proofs.PairsJudged.{told_without_walk, pair_judged}
use Rattle.answer_check.proofs.pairs.reason_of_pair.Goals as goal

pub returns-in-None-clause-reason : goal.returns-in-None-clause-reason
returns-in-None-clause-reason g c =
    let A = g.A.PathAlgebra.meaning c.args.searcher.now.algebra in
    let roads = c.args.graph.now in
    let s = c.args.pair.0 in
    let t = c.args.pair.1 in
    let lawful = subst (λ (a : g.row.A.Denot). IsLawful (g.A.PathAlgebra.meaning a)) c.algebra-algebra.ensures c.laws_hold.ensures.lawful in
    rw c.in-Some.is (told_without_walk A lawful roads s t (found_of c.in-Some.found) (subst (IsPairFound A roads s t) c.in-None.is c.in_ok-right.ensures.found))

pub returns-in-Some-right-clause-reason : goal.returns-in-Some-right-clause-reason
returns-in-Some-right-clause-reason g c =
    let A = g.A.PathAlgebra.meaning c.args.searcher.now.algebra in
    let roads = c.args.graph.now in
    let s = c.args.pair.0 in
    let t = c.args.pair.1 in
    let right = c.in-Some-right.right in
    let lawful = subst (λ (a : g.row.A.Denot). IsLawful (g.A.PathAlgebra.meaning a)) c.algebra-algebra.ensures c.laws_hold.ensures.lawful in
    rw c.in-Some.is (pair_judged A lawful roads s t (found_of right) (subst (IsPairFound A roads s t) c.in-Some-right.is c.in_ok-right.ensures.found)
    (found_of c.in-Some.found) c.difference.result c.difference.ensures)

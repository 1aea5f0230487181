use Rattle.question_solvers.proofs.Words.{subst, IsPairFound}
use Rattle.question_solvers.proofs.pair_search.solve_at.Goals as goal

pub returns-clause-solved : goal.returns-clause-solved
returns-clause-solved g c =
    let pair = c.pair_at-source.result in
    let right = subst (λ a. IsPairFound (g.A.PathAlgebra.meaning a) c.args.pairs.now.over.now.graph.now pair.source pair.target c.in_ok-found.found) c.requires.searcher.by c.in_ok-found.ensures.found in
    c.answer_of_pair.ensures _ _ _ c.pair_at-source.ensures.asked right

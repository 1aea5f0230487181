use Rattle.question_solvers.proofs.Words.{subst, IsPairFound}
use Rattle.question_solvers.proofs.pair_search.solve_near_at.Goals as goal

pub returns-in-Decided-clause-solved : goal.returns-in-Decided-clause-solved
returns-in-Decided-clause-solved g c =
    let pair = c.pair_at-source.result in
    let graph = c.args.pairs.now.over.now.graph.now in
    let near : IsPairFound (g.A.PathAlgebra.meaning c.args.searcher.now.algebra) graph pair.source pair.target c.in-Decided.found = rw c.in-Decided.is at c.find_near.ensures.found in
    let right = subst (λ a. IsPairFound (g.A.PathAlgebra.meaning a) graph pair.source pair.target c.in-Decided.found) c.requires.searcher.by near in
    c.answer_of_pair.ensures _ _ _ c.pair_at-source.ensures.asked right

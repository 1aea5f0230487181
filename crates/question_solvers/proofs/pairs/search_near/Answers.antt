use Rattle.question_solvers.proofs.Words.{sym, subst, All-set, IsSearcherIn}
use Rattle.question_solvers.proofs.pairs.search_near.Goals as goal

pub solve_near_at-requires-clause-searcher : goal.solve_near_at-requires-clause-searcher
solve_near_at-requires-clause-searcher g c κs within =
    subst (λ s. IsSearcherIn c.args.pairs.now.over.now s.searcher) (sym c.index_mut.ensures.value) (c.in_ok-k.ensures.pool c.in_ok-k.k c.index_mut.result.now c.in_ok-k.ensures.inside)

pub returns-clause-pool : goal.returns-clause-pool
returns-clause-pool g c = All-set (λ s. IsSearcherIn c.args.pairs.now.over.now s.searcher) c.find_for.new.pool.items c.in_ok-k.k _ c.solve_near_at.ensures.searcher c.in_ok-k.ensures.pool

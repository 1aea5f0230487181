use Rattle.question_solvers.proofs.Words.{sym, subst, All-set, IsSearcherIn}
use Rattle.question_solvers.proofs.plain.solve_pair.Goals as goal

pub solve_at-requires-clause-searcher : goal.solve_at-requires-clause-searcher
solve_at-requires-clause-searcher g c κs within =
    subst (λ s. IsSearcherIn c.args.pairs.now.over.now s.searcher) (sym c.index_mut.ensures.value) (c.in_ok-k.ensures.pool c.in_ok-k.k c.index_mut.result.now c.in_ok-k.ensures.inside)

pub returns-clause-pool : goal.returns-clause-pool
returns-clause-pool g c = All-set (λ s. IsSearcherIn c.args.pairs.now.over.now s.searcher) c.find_for.new.pool.items c.in_ok-k.k _ c.solve_at.ensures.searcher c.in_ok-k.ensures.pool

pub returns-in_err-next-clause-pool : goal.returns-in_err-next-clause-pool
returns-in_err-next-clause-pool g c = All-set (λ s. IsSearcherIn c.args.pairs.now.over.now s.searcher) c.find_for.new.pool.items c.in_ok-k.k _ c.solve_at.ensures.searcher c.in_ok-k.ensures.pool

use Rattle.question_solvers.specs.Tasks.{IsSearcherIn}
use Rattle.question_solvers.proofs.Pools.{stored_all}
use Rattle.question_solvers.proofs.pairs.search_each.Goals as goal

pub returns-clause-pool : goal.returns-clause-pool
returns-clause-pool g c = stored_all (λ s. IsSearcherIn c.args.pairs.now.over.now s.searcher) _ c.grow.new.pool.items c.search_group.new.pool c.grow.ensures.pool c.search_group.ensures.pool

use Rattle.question_solvers.specs.Tasks.{IsSearcherIn}
use Rattle.question_solvers.proofs.Pools.{put_all}
use Rattle.question_solvers.proofs.pairs.search_group.Goals as goal

pub returns-clause-pool : goal.returns-clause-pool
returns-clause-pool g c =
    put_all (λ s. IsSearcherIn c.args.pairs.now.over.now s.searcher) 0 _ c.args.pool.now c.add_found.new.group c.requires.pool c.add_found.ensures.pool

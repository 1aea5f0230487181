use Rattle.batch_run.proofs.Words.{ap, cond, ◌∙◌, Arrival, BestFirst, setup_of, Algebra, order_of}
use Rattle.station.proofs.ExactCounts.{best_first_once_an_arc}
use Rattle.batch_run.proofs.laws.best_first_accounts_count_each_arc_once.Goals as goal

pub returns : goal.returns
returns g c = λ how roads source tally one best account marked M.
    let laws = g.met.A.PathAlgebra g.world.𝓛 g.world.𝓜 g.world.𝓡 ((λ s x. x), (λ x. x), (λ x. x), λ x. x) in
    best_first_once_an_arc (λ (B : Algebra g.row.A-Value.Denot). B) (setup_of (g.A.PathAlgebra.meaning c.args._algebra) roads source account.plan (order_of how)) (record { labels = account.labels; tally = tally })
    (laws.lawful c.args._algebra) (account.cut.shards ∙ one, ap (λ b. cond b BestFirst Arrival) best) account.gathered marked M

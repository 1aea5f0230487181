use Rattle.shard_part.proofs.OnePartTakesTheBest.{opened_takes_best, opened_sends_once}
use Rattle.shard_part.proofs.laws.one_part_takes_the_best.Goals as goal

pub returns-clause-best : goal.returns-clause-best
returns-clause-best g c = λ t items q planned one handled.
    let laws = g.met.A.PathAlgebra g.world.𝓛 g.world.𝓜 g.world.𝓡 ((λ s x. x), (λ x. x), (λ x. x), λ x. x) in
    opened_takes_best g.A.PathAlgebra.meaning laws.lawful t planned one items q handled

pub returns-clause-sent : goal.returns-clause-sent
returns-clause-sent g c = λ t items q planned one handled marked covers.
    let laws = g.met.A.PathAlgebra g.world.𝓛 g.world.𝓜 g.world.𝓡 ((λ s x. x), (λ x. x), (λ x. x), λ x. x) in
    opened_sends_once g.A.PathAlgebra.meaning laws.lawful t planned one items q handled marked covers

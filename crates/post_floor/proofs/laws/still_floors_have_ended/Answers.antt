use Rattle.post_floor.proofs.Still.{still_has_ended, still_knows}
use Rattle.post_floor.proofs.laws.still_floors_have_ended.Goals as goal

pub returns-clause-ended : goal.returns-clause-ended
returns-clause-ended g c = λ t s P r still.
    let laws = g.met.A.PathAlgebra g.world.𝓛 g.world.𝓜 g.world.𝓡 ((λ s x. x), (λ x. x), (λ x. x), λ x. x) in
    still_has_ended g.A.PathAlgebra.meaning t s r still laws.lawful P

pub returns-clause-known : goal.returns-clause-known
returns-clause-known g c = λ t s P r still id i v p at has here.
    let laws = g.met.A.PathAlgebra g.world.𝓛 g.world.𝓜 g.world.𝓡 ((λ s x. x), (λ x. x), (λ x. x), λ x. x) in
    still_knows g.A.PathAlgebra.meaning t s r still laws.lawful P id i v p at has here

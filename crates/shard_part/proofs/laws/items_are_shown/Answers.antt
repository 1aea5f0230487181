use Rattle.shard_part.proofs.TakenShown.{many_shown}
use Rattle.shard_part.proofs.laws.items_are_shown.Goals as goal

pub returns : goal.returns
returns g c = λ t events before after p q n mail w shows handled.
    let laws = g.met.A.PathAlgebra g.world.𝓛 g.world.𝓜 g.world.𝓡 ((λ s x. x), (λ x. x), (λ x. x), λ x. x) in
    many_shown g.A.PathAlgebra.meaning laws.lawful t events before after p q n mail w shows handled

use Rattle.shard_part.proofs.Words.{◌∙◌, sym, network_of, place_in}
use Rattle.shard_part.proofs.UnderWay.{ended_empty}
use Rattle.shard_part.proofs.laws.ended_is_empty.Goals as goal

pub returns : goal.returns
returns g c = λ t events parts mail w shows.
    let laws = g.met.A.PathAlgebra g.world.𝓛 g.world.𝓜 g.world.𝓡 ((λ s x. x), (λ x. x), (λ x. x), λ x. x) in
    let e = ended_empty (g.A.PathAlgebra.meaning t.diffusion.algebra) (network_of t) (place_in t) (laws.lawful t.diffusion.algebra) w events in
    let s = shows.shown.weighs (λ _ _. 1) in
    ((λ q. s ∙ e.0 q), (λ z. e.1 (sym s ∙ z)))

use Rattle.shard_store.specs.Setup.{network_of, place_in}
use Rattle.shard_part.proofs.Readable.{places_read}
use Rattle.shard_part.proofs.laws.places_are_read.Goals as goal

pub returns : goal.returns
returns g c = λ t parts ms d shows b lt.
    let laws = g.met.A.PathAlgebra g.world.𝓛 g.world.𝓜 g.world.𝓡 ((λ s x. x), (λ x. x), (λ x. x), λ x. x) in
    places_read (g.A.PathAlgebra.meaning t.diffusion.algebra) (network_of t) (place_in t) (laws.lawful t.diffusion.algebra) parts ms d shows.shown b lt

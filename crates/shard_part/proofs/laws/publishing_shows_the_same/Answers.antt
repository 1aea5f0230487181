use Rattle.shard_part.proofs.Showing.{publish_shows}
use Rattle.shard_part.proofs.laws.publishing_shows_the_same.Goals as goal

pub returns : goal.returns
returns g c = λ t before after p to boxes behind d h. publish_shows g.A.PathAlgebra.meaning t before after p to boxes behind d h

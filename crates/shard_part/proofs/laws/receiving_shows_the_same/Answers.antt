use Rattle.shard_part.proofs.Showing.{receive_shows}
use Rattle.shard_part.proofs.laws.receiving_shows_the_same.Goals as goal

pub returns : goal.returns
returns g c = λ t before after p batch boxes behind d h. receive_shows g.A.PathAlgebra.meaning t before after p batch boxes behind d h

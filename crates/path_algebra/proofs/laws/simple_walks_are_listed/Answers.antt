use Rattle.path_algebra.proofs.SimpleWalks.{lists_simple_walks}
use Rattle.path_algebra.proofs.laws.simple_walks_are_listed.Goals as goal

pub returns : goal.returns
returns c = λ g s v R S. lists_simple_walks g R s v S

use Rattle.path_algebra.specs.Names.{Shortest}
use Rattle.path_algebra.proofs.Carried.{held_carried}
use Rattle.path_algebra.proofs.shortest.ShortestPathAlgebra.cost.Goals as goal

pub returns-clause-carried : goal.returns-clause-carried
returns-clause-carried c = held_carried Shortest (λ w. w)

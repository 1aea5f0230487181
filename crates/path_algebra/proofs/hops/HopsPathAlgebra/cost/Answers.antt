use Rattle.path_algebra.specs.Names.{Hops}
use Rattle.path_algebra.proofs.Carried.{held_carried}
use Rattle.path_algebra.proofs.hops.HopsPathAlgebra.cost.Goals as goal

pub returns-clause-carried : goal.returns-clause-carried
returns-clause-carried c = held_carried Hops (λ _. 1)

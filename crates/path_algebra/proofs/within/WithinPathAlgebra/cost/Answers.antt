use Rattle.path_algebra.proofs.Carried.{within_carried}
use Rattle.path_algebra.proofs.within.WithinPathAlgebra.cost.Goals as goal

pub returns-clause-carried : goal.returns-clause-carried
returns-clause-carried c = within_carried c.args.self.limit

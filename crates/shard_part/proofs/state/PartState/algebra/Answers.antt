use Rattle.shard_part.proofs.ToldKept.{stored_formed}
use Rattle.shard_part.proofs.state.PartState.algebra.Goals as goal

pub returns-clause-formed : goal.returns-clause-formed
returns-clause-formed g c = stored_formed g.A.PathAlgebra.meaning _ c.args.self.now _ _ _ c.self.view_is c.self.invariant

use Rattle.shard_part.proofs.BatchFits.{IsSame}
use Rattle.shard_part.proofs.state.PartState.fits.Given as goal

abbrev pub invariant-loop-i : goal.invariant-loop-i
invariant-loop-i g l = IsSame (g.A.PathAlgebra.meaning l.self.setup.diffusion.algebra) l.self l.batch.items l.i

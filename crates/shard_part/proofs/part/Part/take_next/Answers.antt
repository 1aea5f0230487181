use Rattle.shard_part.proofs.Words.{subst, HandledRun}
use Rattle.shard_part.proofs.part.Part.take_next.Goals as goal

pub returns-clause-taken : goal.returns-clause-taken
returns-clause-taken g c = λ some. subst (λ p. HandledRun g.A.PathAlgebra.meaning p c.handle_next.result c.handle_next.new.self) c.self.view_is (c.handle_next.ensures.taken some c.self.invariant)

use Rattle.shard_part.proofs.Words.{sym, subst, OwnIdleIsTold}
use Rattle.shard_part.proofs.part.Part.swap_outbox.Goals as goal

pub invariant_of-self : goal.invariant_of-self
invariant_of-self g c = subst OwnIdleIsTold (sym c.swap_outbox.ensures.part) c.self.invariant

use Rattle.std.proofs.Common.{IfSome}
use Rattle.shard_part.specs.Part.{IsOutgoing}
use Rattle.shard_part.proofs.state.PartState.best_for_others.Given as goal

abbrev pub invariant-loop-to : goal.invariant-loop-to
invariant-loop-to g l = IfSome l.best (λ x. IsOutgoing x l.self)

use Rattle.std.proofs.Common.{ℕ, IfSome}
use Rattle.std.specs.Prelude.{Contains}
use Rattle.scholten_core.specs.declared.item.Item.TheVariants.{Message as MessageOn}
use Rattle.shard_part.proofs.state.ahead.best_in.Given as goal

abbrev pub invariant-loop-index : goal.invariant-loop-index
invariant-loop-index g l = IfSome l.best (λ x. (a : ℕ) × Contains l.batch.items (MessageOn a x))

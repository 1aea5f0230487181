use Rattle.shard_part.proofs.Words.{ℕ, sym, subst, MessageOn}
use Rattle.std.specs.Prelude.{Contains, IfSome}
use Rattle.shard_part.proofs.Ahead.{better_kept}
use Rattle.shard_part.proofs.state.ahead.best_in.Goals as goal

pub loop-index-preserved : goal.loop-index-preserved
loop-index-preserved g c = subst (λ o. IfSome o (λ x. (a : ℕ) × Contains c.args.batch.now.items (MessageOn a x))) (sym c.better_label-best.ensures)
    (better_kept (λ x. (a : ℕ) × Contains c.args.batch.now.items (MessageOn a x)) g.A.PathAlgebra.order c.loop-index.best c.value_at.result c.loop-index.invariant c.value_at.ensures)

use Rattle.std.proofs.Common.{ap, refl, ◌∙◌, ◌-◌, drop, length}
use Rattle.shard_store.proofs.Totals.{drop_pieces, in_one, in_other}
use Rattle.shard_store.proofs.batch.Batch.carries_from.Goals as goal

pub returns-then-carried_in : goal.returns-then-carried_in
returns-then-carried_in g c =
    in_one c.args.arc (drop c.args.from c.as_slices.result.0.now) (drop (c.args.from - length c.as_slices.result.0.now) c.as_slices.result.1.now)
    (drop c.args.from c.args.self.now.items) c.carried_in.result
    (drop_pieces c.args.from _ c.as_slices.result.0.now c.as_slices.result.1.now refl
    ∙ ap (drop c.args.from) (c.as_slices.ensures ∙ ap (λ b. b.items) c.self.view_is)) c.carried_in.ensures c.if-carried_in.true

pub returns-else-carried_in : goal.returns-else-carried_in
returns-else-carried_in g c =
    in_other c.args.arc (drop c.args.from c.as_slices.result.0.now) (drop c.saturating_sub.result c.as_slices.result.1.now)
    (drop c.args.from c.args.self.now.items) c.carried_in.result c.carried_in-else-carried_in.result
    (drop_pieces c.args.from c.saturating_sub.result c.as_slices.result.0.now c.as_slices.result.1.now c.saturating_sub.ensures
    ∙ ap (drop c.args.from) (c.as_slices.ensures ∙ ap (λ b. b.items) c.self.view_is)) c.carried_in.ensures c.if-carried_in.false
    c.carried_in-else-carried_in.ensures

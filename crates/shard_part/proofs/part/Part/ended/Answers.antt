use Rattle.shard_part.proofs.Words.{ap, ◌∙◌, has_ended}
use Rattle.shard_part.proofs.Receiving.{entry_row, ended_then, ended_else}
use Rattle.shard_part.proofs.part.Part.ended.Goals as goal

pub is_busy-requires-after_bounds : goal.is_busy-requires-after_bounds
is_busy-requires-after_bounds g c κs within = entry_row _ c.self.inside.state _ _ _ (ap (λ i. i.state) c.self-inside.view_is) c.self-inside.invariant

pub returns-then-eq : goal.returns-then-eq
returns-then-eq g c = ended_then _ c.self.inside.state c.shard_of.result c.eq.result c.is_busy.result
    (ap (λ i. i.state) c.self-inside.view_is) c.shard_of.ensures c.eq.ensures c.if-eq.true c.is_busy.ensures
    ∙ ap has_ended c.self.view_is

pub returns-else-eq : goal.returns-else-eq
returns-else-eq g c = ended_else _ c.self.inside.state c.shard_of.result c.eq.result (ap (λ i. i.state) c.self-inside.view_is) c.shard_of.ensures c.eq.ensures c.if-eq.false
    ∙ ap has_ended c.self.view_is

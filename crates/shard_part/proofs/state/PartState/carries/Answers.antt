use Rattle.std.proofs.Common.{ap, ◌∙◌, map}
use Rattle.shard_part.proofs.BatchFits.{carried_out, outs_next, carried_none}
use Rattle.shard_part.proofs.state.PartState.carries.Goals as goal

pub returns-then-carries_from : goal.returns-then-carries_from
returns-then-carries_from g c = carried_out c.args.arc c.args.self.now (λ b. b.items) c.deref-out-items.result.now c.loop-out.out-index c.out-item.result c.carries_from.result
    (ap (map (λ b. b.items)) c.deref-out-items.ensures.value ∙ ap (λ p. p.outs) c.self.view_is) c.loop-out-test.true c.out-item.is c.loop-out.invariant.1 c.carries_from.ensures c.if-carries_from.true

pub loop-out-preserved : goal.loop-out-preserved
loop-out-preserved g c = (
  c.loop-out.invariant.0,
  outs_next c.args.arc c.args.self.now (λ b. b.items) c.deref-out-items.result.now c.loop-out.out-index c.out-item.result c.carries_from.result
      (ap (map (λ b. b.items)) c.deref-out-items.ensures.value ∙ ap (λ p. p.outs) c.self.view_is) c.loop-out-test.true c.out-item.is
      c.loop-out.invariant.1 c.carries_from.ensures c.if-carries_from.false,
)

pub returns : goal.returns
returns g c = carried_none c.args.arc c.args.self.now (λ b. b.items) c.deref-out-items.result.now c.loop-out.out-index
    (ap (map (λ b. b.items)) c.deref-out-items.ensures.value ∙ ap (λ p. p.outs) c.self.view_is) c.loop-out-test.false c.loop-out.invariant.0 c.loop-out.invariant.1

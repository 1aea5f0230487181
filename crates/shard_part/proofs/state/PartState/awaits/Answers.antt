use Rattle.shard_part.proofs.Words.{false, get_or, ap, sym, ◌∙◌, RoadArc}
use Rattle.shard_part.proofs.Receiving.{arc_is, tail_is, head_is, await_then, await_else}
use Rattle.shard_part.proofs.state.PartState.awaits.Goals as goal

pub row_of-requires-clause-arc : goal.row_of-requires-clause-arc
row_of-requires-clause-arc g c = λ κs w. arc_is _ c.args.self.now _ _ _ c.args.arc c.self.view_is c.self.invariant c.requires

pub row_of-requires-clause-tail : goal.row_of-requires-clause-tail
row_of-requires-clause-tail g c = λ κs w. sym (c.place.ensures.vertex ∙ ap (λ (r : RoadArc). r.tail) c.arc-ends.ensures
    ∙ tail_is _ c.args.self.now _ _ _ c.args.arc c.self.view_is c.self.invariant c.requires)

pub returns-then-leads_here : goal.returns-then-leads_here
returns-then-leads_here g c = await_then c.args.self.now c.args.arc c.arc-ends.result.head c.arc-ends.result.tail c.leads_here.result c.is_busy.result
    (ap (λ (r : RoadArc). r.head) c.arc-ends.ensures ∙ head_is _ c.args.self.now _ _ _ c.args.arc c.self.view_is c.self.invariant c.requires)
    (ap (λ (r : RoadArc). r.tail) c.arc-ends.ensures ∙ tail_is _ c.args.self.now _ _ _ c.args.arc c.self.view_is c.self.invariant c.requires)
    c.leads_here.ensures c.if-leads_here.true (c.is_busy.ensures ∙ ap (λ b. get_or c.args.self.now.busy b false) c.row_of.ensures.arc)

pub returns-else-leads_here : goal.returns-else-leads_here
returns-else-leads_here g c = await_else c.args.self.now c.args.arc c.arc-ends.result.head c.arc-ends.result.tail c.leads_here.result
    (ap (λ (r : RoadArc). r.head) c.arc-ends.ensures ∙ head_is _ c.args.self.now _ _ _ c.args.arc c.self.view_is c.self.invariant c.requires)
    (ap (λ (r : RoadArc). r.tail) c.arc-ends.ensures ∙ tail_is _ c.args.self.now _ _ _ c.args.arc c.self.view_is c.self.invariant c.requires)
    c.leads_here.ensures c.if-leads_here.false

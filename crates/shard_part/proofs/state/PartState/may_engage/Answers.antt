use Rattle.shard_part.proofs.Words.{ap, ◌∙◌, state_in, names, RoadArc}
use Rattle.shard_part.proofs.Receiving.{tail_is, head_is, engage_then, engage_else}
use Rattle.shard_part.proofs.state.PartState.may_engage.Goals as goal

pub returns-then-leads_here : goal.returns-then-leads_here
returns-then-leads_here g c = engage_then c.args.self.now c.args.arc c.arc-ends.result.head c.arc-ends.result.tail c.leads_here.result c.engages.result
    (ap (λ (r : RoadArc). r.head) c.arc-ends.ensures ∙ head_is _ c.args.self.now _ _ _ c.args.arc c.self.view_is c.self.invariant c.requires)
    (ap (λ (r : RoadArc). r.tail) c.arc-ends.ensures ∙ tail_is _ c.args.self.now _ _ _ c.args.arc c.self.view_is c.self.invariant c.requires)
    c.leads_here.ensures c.if-leads_here.true (c.engages.ensures ∙ ap (λ v. names ((state_in c.args.self.now).engager v) c.args.arc) c.place.ensures.vertex)

pub returns-else-leads_here : goal.returns-else-leads_here
returns-else-leads_here g c = engage_else c.args.self.now c.args.arc c.arc-ends.result.head c.arc-ends.result.tail c.leads_here.result
    (ap (λ (r : RoadArc). r.head) c.arc-ends.ensures ∙ head_is _ c.args.self.now _ _ _ c.args.arc c.self.view_is c.self.invariant c.requires)
    (ap (λ (r : RoadArc). r.tail) c.arc-ends.ensures ∙ tail_is _ c.args.self.now _ _ _ c.args.arc c.self.view_is c.self.invariant c.requires)
    c.leads_here.ensures c.if-leads_here.false

use Rattle.shard_part.proofs.Words.{◌≡◌, ◌<◌, ◌∙◌, ap, map, length, arith, sym, subst, IfSome, length-map, IsOutgoingTo}
use Rattle.shard_part.proofs.Ahead.{in_outbox}
use Rattle.shard_part.proofs.state.PartState.best_outgoing.Goals as goal

pub returns : goal.returns
returns g c = subst (λ k. IfSome c.best_in.result (λ x. IsOutgoingTo k x c.args.self.now)) c.to.view_is
    (in_outbox c.args.self.now (λ b. b.items) c.self.inside.outs.items c.to.inside.0 c.index.result.now c.best_in.result
    (ap (λ p. p.outs) c.self.view_is)
    (let v = c.to.view_is in let r = c.requires in let a = c.self.invariant.roomy.boxes in
    let s = ap (λ p. p.setup.plan.shards) c.self.view_is in let n = length-map c.self.inside.outs.items (λ b. b.items) in omega (arith, v, r, a, s, n))
    c.index.ensures c.best_in.ensures)

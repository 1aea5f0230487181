use Rattle.shard_part.proofs.Words.{sym, subst, PartData, network_of, valued, RestsRepaid, TakenRepaid}
use Rattle.shard_part.proofs.state.PartState.handle_item.Goals as goal

pub returns-in-Message-clause-taken : goal.returns-in-Message-clause-taken
returns-in-Message-clause-taken g c =
    let p = c.args.self.now in let q = c.handle_message.new.self in let a = c.in-Message.arc in let x = c.in-Message.value in
    subst (λ i. TakenRepaid (g.A.PathAlgebra.meaning p.setup.diffusion.algebra) i c.handle_message.result p q) (sym c.in-Message.is)
    (subst (λ (u : PartData g.row.A.Denot g.row.A-Value.Denot). RestsRepaid (g.A.PathAlgebra.meaning u.setup.diffusion.algebra) ((network_of u.setup).head a) c.handle_message.result
    (valued (g.A.PathAlgebra.meaning u.setup.diffusion.algebra) a x ((network_of u.setup).head a) u) q) c.count_delivered.ensures c.handle_message.ensures.rests)

use Rattle.std.proofs.Common.{ap}
use Rattle.shard_part.proofs.Receiving.{receive_leaves}
use Rattle.shard_part.proofs.state.PartState.receive.Goals as goal

pub append-requires-after_bounds : goal.append-requires-after_bounds
append-requires-after_bounds g c κs within = (receive_leaves (g.A.PathAlgebra.meaning c.args.self.now.setup.diffusion.algebra) _ c.args.self.now _ _ _ c.args.batch.now.items
    c.self.view_is c.self.invariant c.requires.room c.requires.fits).0

pub invariant_of-self : goal.invariant_of-self
invariant_of-self g c = ((receive_leaves (g.A.PathAlgebra.meaning c.args.self.now.setup.diffusion.algebra) _ c.args.self.now _ _ _
    c.args.batch.now.items c.self.view_is c.self.invariant c.requires.room c.requires.fits).1 c.append.new.self (ap (λ q. q.items) c.append.ensures.own) (ap (λ q. q.room) c.append.ensures.own)).0

pub returns-clause-part : goal.returns-clause-part
returns-clause-part g c = ((receive_leaves (g.A.PathAlgebra.meaning c.args.self.now.setup.diffusion.algebra) _ c.args.self.now _ _ _
    c.args.batch.now.items c.self.view_is c.self.invariant c.requires.room c.requires.fits).1 c.append.new.self (ap (λ q. q.items) c.append.ensures.own) (ap (λ q. q.room) c.append.ensures.own)).1

use Rattle.shard_part.proofs.Words.{Some, ap, VertexAt}
use Rattle.shard_part.proofs.Moves.{engage_keeps, engager_leaves}
use Rattle.shard_part.proofs.state.PartState.engage.Goals as goal

pub invariant_of-self : goal.invariant_of-self
invariant_of-self g c = rw (c.set_engager.ensures, ap (λ (w : VertexAt). w.at) c.v.view_is)
    (engage_keeps _ c.args.self.now _ _ _ c.args.v.vertex c.args.v.at c.args.a c.self.view_is c.self.invariant c.requires.place c.requires.arc
    c.requires.head c.requires.clear)

pub returns : goal.returns
returns g c = rw (c.set_engager.ensures, ap (λ (w : VertexAt). w.at) c.v.view_is)
    (engager_leaves _ c.args.self.now _ _ _ c.args.v.vertex c.args.v.at (Some c.args.a) c.self.view_is c.self.invariant c.requires.place)

use Rattle.shard_part.proofs.Words.{ap, VertexAt}
use Rattle.shard_part.proofs.Moves.{engager_read}
use Rattle.shard_part.proofs.state.PartState.engager_at.Goals as goal

pub returns : goal.returns
returns g c = engager_read _ c.args.self.now _ _ _ c.args.v.vertex c.args.v.at c.engager.result c.self.view_is c.self.invariant c.requires
    (rw (ap (λ (w : VertexAt). w.at) c.v.view_is) at c.engager.ensures)

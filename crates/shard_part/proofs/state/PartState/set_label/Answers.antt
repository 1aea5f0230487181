use Rattle.shard_part.proofs.Words.{Some, ap, VertexAt}
use Rattle.shard_part.proofs.Moves.{label_leaves}
use Rattle.shard_part.proofs.state.PartState.set_label.Goals as goal

pub returns : goal.returns
returns g c = rw (c.set_label.ensures, ap (λ (w : VertexAt). w.at) c.v.view_is)
    (label_leaves _ c.args.self.now _ _ _ c.args.v.vertex c.args.v.at (Some c.args.label) c.self.view_is c.self.invariant c.requires)

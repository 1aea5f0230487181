use Rattle.shard_part.proofs.Words.{arith, ap, VertexAt}
use Rattle.shard_part.proofs.Busy.{rows_few}
use Rattle.shard_part.proofs.Graphs.{row_leaves}
use Rattle.shard_part.proofs.state.PartState.row.Goals as goal

pub overflow_add-result : goal.overflow_add-result
overflow_add-result g c = let r = (row_leaves _ c.args.self.now _ _ _ c.args.v.vertex c.args.v.at c.args.k c.offset.result c.self.view_is
    c.self.invariant c.requires.place c.requires.arc (rw (ap (λ (w : VertexAt). w.at) c.v.view_is) at c.offset.ensures)).0 in
    let few = rows_few _ _ _ _ c.self.invariant in omega (arith, r, few)

pub returns : goal.returns
returns g c = (row_leaves _ c.args.self.now _ _ _ c.args.v.vertex c.args.v.at c.args.k c.offset.result c.self.view_is c.self.invariant
    c.requires.place c.requires.arc (rw (ap (λ (w : VertexAt). w.at) c.v.view_is) at c.offset.ensures)).1

use Rattle.shard_part.proofs.Words.{false, ap, VertexAt, ArcAt}
use Rattle.shard_part.proofs.Busy.{free_keeps, busy_leaves}
use Rattle.shard_part.proofs.state.PartState.free.Goals as goal

pub overflow_sub-deficit : goal.overflow_sub-deficit
overflow_sub-deficit g c = (free_keeps _ c.args.self.now _ _ _ c.args.v.vertex c.args.v.at c.args.a.arc c.args.a.at c.deficit-deficit.result
    c.self.view_is c.self.invariant c.requires.place c.requires.row c.requires.tail c.requires.here c.requires.clear
    (rw (ap (λ (w : VertexAt). w.at) c.v.view_is) at c.deficit-deficit.ensures)).0

pub invariant_of-self : goal.invariant_of-self
invariant_of-self g c = rw (c.set_busy.ensures, c.set_deficit.ensures, ap (λ (w : ArcAt). w.at) c.a.view_is, ap (λ (w : VertexAt). w.at) c.v.view_is)
    ((free_keeps _ c.args.self.now _ _ _ c.args.v.vertex c.args.v.at c.args.a.arc c.args.a.at c.deficit-deficit.result c.self.view_is c.self.invariant
    c.requires.place c.requires.row c.requires.tail c.requires.here c.requires.clear
    (rw (ap (λ (w : VertexAt). w.at) c.v.view_is) at c.deficit-deficit.ensures)).1)

pub returns : goal.returns
returns g c = rw (c.set_busy.ensures, c.set_deficit.ensures, ap (λ (w : ArcAt). w.at) c.a.view_is)
    (busy_leaves _ c.args.self.now _ _ _ c.args.a.arc c.args.a.at false c.self.view_is c.self.invariant c.requires.row)

use Rattle.shard_part.proofs.Words.{true, rules, ap, VertexAt, ArcAt}
use Rattle.shard_part.proofs.Busy.{occupy_keeps, busy_leaves, deficit_few}
use Rattle.shard_part.proofs.state.PartState.occupy.Goals as goal

pub overflow_add-deficit : goal.overflow_add-deficit
overflow_add-deficit g c = let few = deficit_few _ c.args.self.now _ _ _ c.args.v.vertex c.args.v.at c.deficit-deficit.result c.self.view_is
    c.self.invariant c.requires.place (rw (ap (λ (w : VertexAt). w.at) c.v.view_is) at c.deficit-deficit.ensures) in search rules

pub invariant_of-self : goal.invariant_of-self
invariant_of-self g c = rw (c.set_busy.ensures, c.set_deficit.ensures, ap (λ (w : ArcAt). w.at) c.b.view_is, ap (λ (w : VertexAt). w.at) c.v.view_is)
    ((occupy_keeps _ c.args.self.now _ _ _ c.args.v.vertex c.args.v.at c.args.b.arc c.args.b.at c.deficit-deficit.result c.self.view_is
    c.self.invariant c.requires.place c.requires.row c.requires.tail c.requires.vertex c.requires.idle
    (rw (ap (λ (w : VertexAt). w.at) c.v.view_is) at c.deficit-deficit.ensures)).0)

pub returns-clause-moved : goal.returns-clause-moved
returns-clause-moved g c = rw (c.set_busy.ensures, c.set_deficit.ensures, ap (λ (w : ArcAt). w.at) c.b.view_is)
    (busy_leaves _ c.args.self.now _ _ _ c.args.b.arc c.args.b.at true c.self.view_is c.self.invariant c.requires.row)

pub returns-clause-clear : goal.returns-clause-clear
returns-clause-clear g c = rw (c.set_busy.ensures, c.set_deficit.ensures, ap (λ (w : ArcAt). w.at) c.b.view_is)
    ((occupy_keeps _ c.args.self.now _ _ _ c.args.v.vertex c.args.v.at c.args.b.arc c.args.b.at c.deficit-deficit.result c.self.view_is
    c.self.invariant c.requires.place c.requires.row c.requires.tail c.requires.vertex c.requires.idle
    (rw (ap (λ (w : VertexAt). w.at) c.v.view_is) at c.deficit-deficit.ensures)).1)

use Rattle.std.proofs.Common.{arith, ap, sym, set, ◌∙◌}
use Rattle.shard_store.proofs.Records.{arc_inside, told_written, untold_written}
use Rattle.shard_store.proofs.tables.ArcTable.set_last_offer.Goals as goal

pub index_mut-requires : goal.index_mut-requires
index_mut-requires g c = let l = (arc_inside c.self.inside.marks.items c.self.inside.labels.items c.args.self.now c.args.i c.self.invariant
    c.self.view_is c.requires).1 in omega (arith, l, c.self.inside.labels.ok.0)

pub index_mut-requires-in-Some : goal.index_mut-requires-in-Some
index_mut-requires-in-Some g c = let l = (arc_inside c.self.inside.marks.items c.self.inside.labels.items c.args.self.now c.args.i c.self.invariant
    c.self.view_is c.requires).0 in omega (arith, l, c.self.inside.marks.ok.0)

pub index_mut-requires-in-None : goal.index_mut-requires-in-None
index_mut-requires-in-None g c = let l = (arc_inside c.self.inside.marks.items c.self.inside.labels.items c.args.self.now c.args.i c.self.invariant
    c.self.view_is c.requires).0 in omega (arith, l, c.self.inside.marks.ok.0)

pub returns-in-Some : goal.returns-in-Some
returns-in-Some g c = told_written c.self.inside.marks.items c.self.inside.labels.items c.args.self.now c.args.i c.index_mut-in-Some.result.now
    c.in-Some.value c.self.invariant c.self.view_is c.index_mut-in-Some.ensures.value
    ∙ ap (λ y. record c.args.self.now { told = set c.args.self.now.told c.args.i y }) (sym c.in-Some.is)

pub returns-in-None : goal.returns-in-None
returns-in-None g c = untold_written c.self.inside.marks.items c.self.inside.labels.items c.args.self.now c.args.i c.index_mut-in-None.result.now
    c.self.invariant c.self.view_is c.index_mut-in-None.ensures.value
    ∙ ap (λ y. record c.args.self.now { told = set c.args.self.now.told c.args.i y }) (sym c.in-None.is)

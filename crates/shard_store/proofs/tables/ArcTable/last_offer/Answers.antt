use Rattle.std.proofs.Common.{arith}
use Rattle.shard_store.proofs.Records.{arc_inside, told_read, untold_read}
use Rattle.shard_store.proofs.tables.ArcTable.last_offer.Goals as goal

pub index-requires : goal.index-requires
index-requires g c = let l = (arc_inside c.self.inside.marks.items c.self.inside.labels.items c.args.self.now c.args.i c.self.invariant c.self.view_is
    c.requires).0 in omega (arith, l, c.self.inside.marks.ok.0)

pub index-requires-then-index : goal.index-requires-then-index
index-requires-then-index g c = let l = (arc_inside c.self.inside.marks.items c.self.inside.labels.items c.args.self.now c.args.i c.self.invariant
    c.self.view_is c.requires).1 in omega (arith, l, c.self.inside.labels.ok.0)

pub returns-then-index : goal.returns-then-index
returns-then-index g c = told_read c.self.inside.marks.items c.self.inside.labels.items c.args.self.now c.args.i c.index.result.now
    c.index-then-index.result.now c.self.invariant c.self.view_is c.requires c.index.ensures c.if-index.true c.index-then-index.ensures

pub returns-else-index : goal.returns-else-index
returns-else-index g c = untold_read c.self.inside.marks.items c.self.inside.labels.items c.args.self.now c.args.i c.index.result.now c.self.view_is c.index.ensures c.if-index.false

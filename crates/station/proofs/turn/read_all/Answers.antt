use Rattle.station.proofs.Words.{[], refl, sym, subst, ◌∙◌, ◌+◌, arith, AllCameIn, AllTriedFrom}
use Rattle.station.proofs.Batches.{came_in}
use Rattle.station.proofs.Counted.{one_at_most}
use Rattle.station.proofs.Through.{begin_from, from_more}
use Rattle.station.proofs.turn.read_all.Goals as goal

pub loop-from-init : goal.loop-from-init
loop-from-init g c = record {
  ready = c.requires.ready;
  part = ([], refl, refl, c.requires.known);
  tried = begin_from c.args.floor.now c.args.seat.now;
  setup = refl;
  shard = refl;
  count = omega arith;
}

pub loop-from-preserved : goal.loop-from-preserved
loop-from-preserved g c =
    let i = c.loop-from.invariant in let e = c.read_from.ensures in let meaning = g.A.PathAlgebra.meaning in
    let m = came_in meaning c.read_from.result c.loop-from.taken c.args.part.now c.loop-from.part c.read_from.new.part i.part e.part in
    record {
      ready = e.ready;
      part = subst (λ z. AllCameIn meaning (c.loop-from.taken + z) c.args.part.now c.read_from.new.part) (sym c.from-taken.ensures) m.0;
      tried = subst (λ z. AllTriedFrom c.args.floor.now (c.loop-from.from + 1) (c.loop-from.taken + z) c.args.seat.now c.read_from.new.seat) (sym c.from-taken.ensures)
          (from_more c.args.floor.now c.loop-from.from c.loop-from.taken c.read_from.result c.args.seat.now c.loop-from.seat c.read_from.new.seat i.tried e.tried);
      setup = m.2 ∙ i.setup;
      shard = m.1 ∙ i.shard;
      count = let o = one_at_most c.read_from.result in let n = i.count in let k = c.from-taken.ensures in omega (arith, o, n, k);
    }

use Rattle.station.proofs.Words.{refl, sym, subst, ◌∙◌, ◌+◌, arith, AllTriedTo}
use Rattle.station.proofs.Batches.{off_like}
use Rattle.station.proofs.Counted.{one_at_most}
use Rattle.station.proofs.Through.{begin_to, to_more}
use Rattle.station.proofs.turn.fill_all.Goals as goal

pub loop-to-init : goal.loop-to-init
loop-to-init g c = record { behind = c.requires.behind; tried = begin_to c.args.floor.now c.args.part.now c.args.seat.now; setup = refl; shard = refl; count = omega arith }

pub loop-to-preserved : goal.loop-to-preserved
loop-to-preserved g c =
    let i = c.loop-to.invariant in let e = c.fill_to.ensures in
    let m = off_like c.fill_to.result c.loop-to.to c.loop-to.part c.fill_to.new.part e.part in
    record {
      behind = e.behind;
      tried = subst (λ z. AllTriedTo c.args.floor.now (c.loop-to.to + 1) (c.loop-to.published + z) c.args.part.now c.fill_to.new.part c.args.seat.now c.fill_to.new.seat) (sym c.from-published.ensures)
          (to_more c.args.floor.now c.loop-to.to c.loop-to.published c.fill_to.result c.args.part.now c.loop-to.part c.fill_to.new.part
          c.args.seat.now c.loop-to.seat c.fill_to.new.seat i.tried e.part e.tried);
      setup = m.1 ∙ i.setup;
      shard = m.0 ∙ i.shard;
      count = let o = one_at_most c.fill_to.result in let n = i.count in let k = c.from-published.ensures in omega (arith, o, n, k);
    }

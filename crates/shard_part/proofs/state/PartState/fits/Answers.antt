use Rattle.std.proofs.Common.{sym, arith}
use Rattle.shard_part.proofs.BatchFits.{same_start, same_next, same_bad, same_done, got_none}
use Rattle.shard_part.proofs.state.PartState.fits.Goals as goal
use Rattle.shard_part.proofs.state.PartState.fits.Goals.{in-Some+else-not-fits_before, in_default}

pub loop-i-init : goal.loop-i-init
loop-i-init g c = same_start (g.A.PathAlgebra.meaning c.args.self.now.setup.diffusion.algebra) c.args.self.now c.args.batch.now.items

pub returns-then-not-fits_before : goal.returns-then-not-fits_before
returns-then-not-fits_before g c = same_bad (g.A.PathAlgebra.meaning c.args.self.now.setup.diffusion.algebra) c.args.self.now c.args.batch.now.items
    c.loop-i.i c.in-Some.item c.fits_before.result c.loop-i.invariant (sym c.in-Some.ensures) c.fits_before.ensures c.if-not-fits_before.true

pub loop-i-preserved : goal.loop-i-preserved
loop-i-preserved g c = elim c.match-get.branch [
  | in-Some+else-not-fits_before w ↦ same_next (g.A.PathAlgebra.meaning c.args.self.now.setup.diffusion.algebra) c.args.self.now c.args.batch.now.items
      c.loop-i.i w.in-Some.item w.fits_before.result c.loop-i.invariant (sym w.in-Some.ensures) w.fits_before.ensures w.if-not-fits_before.false
  | in_default w ↦ absurd (got_none c.args.batch.now.items c.loop-i.i c.len-i-end.result c.get.result c.get.ensures w.in_default.is c.loop-i-test.true c.len-i-end.ensures)
]

pub returns : goal.returns
returns g c =
    same_done (g.A.PathAlgebra.meaning c.args.self.now.setup.diffusion.algebra) c.args.self.now c.args.batch.now.items c.loop-i.i c.state_holds.ensures.sound c.loop-i.invariant
    (let t = c.loop-i-test.false in let e = c.len-i-end.ensures in omega (arith, t, e))

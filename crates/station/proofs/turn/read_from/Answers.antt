use Rattle.station.proofs.Words.{arith, common_steps, read_box}
use Rattle.station.proofs.Stepping.{is_at, read_begun}
use Rattle.station.proofs.turn.read_from.Goals as goal

pub try_read-full-requires-clause-at : goal.try_read-full-requires-clause-at
try_read-full-requires-clause-at g c κs within = is_at g.A.PathAlgebra.meaning c.args.floor.now c.args.seat.now c.args.part.now c.requires.ready

pub clear-requires-clause-at : goal.clear-requires-clause-at
clear-requires-clause-at g c κs within =
    read_begun g.A.PathAlgebra.meaning c.args.floor.now c.args.seat.now c.try_read-full.new.seat c.args.part.now c.try_read-full.new.part
    (read_box c.args.floor.now c.args.seat.now c.args.from) c.requires.ready c.try_read-full.ensures.seat c.if-full.ensures.told

pub returns-then-full-clause-ready : goal.returns-then-full-clause-ready
returns-then-full-clause-ready g c = grind (arith, common_steps)

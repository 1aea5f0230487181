use Rattle.post_floor.specs.Data.{fill_box}
use Rattle.station.proofs.Stepping.{fill_begun, fill_done, fill_missed}
use Rattle.station.proofs.turn.fill_to.Goals as goal

pub publish-requires-clause-at : goal.publish-requires-clause-at
publish-requires-clause-at g c κs within =
    fill_begun g.A.PathAlgebra.meaning c.args.floor.now c.args.seat.now c.try_fill-free.new.seat c.args.part.now
    (fill_box c.args.floor.now c.args.seat.now c.args.to) c.requires.behind c.try_fill-free.ensures.seat c.if-free.ensures.told

pub returns-then-free-clause-behind : goal.returns-then-free-clause-behind
returns-then-free-clause-behind g c =
    fill_done g.A.PathAlgebra.meaning c.args.floor.now c.args.seat.now c.try_fill-free.new.seat c.publish.new.seat c.args.part.now c.publish.new.part
    c.args.to c.requires.behind c.try_fill-free.ensures.seat c.if-free.ensures.told c.publish.ensures.part c.publish.ensures.seat c.publish.ensures.told

pub returns-else-free-clause-behind : goal.returns-else-free-clause-behind
returns-else-free-clause-behind g c =
    fill_missed g.A.PathAlgebra.meaning c.args.floor.now c.args.seat.now c.try_fill-free.new.seat c.args.part.now
    (fill_box c.args.floor.now c.args.seat.now c.args.to) c.requires.behind c.try_fill-free.ensures.seat c.if-free.ensures.told

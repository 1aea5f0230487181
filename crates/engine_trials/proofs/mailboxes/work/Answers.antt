use Rattle.engine_trials.proofs.Places.{works}
use Rattle.engine_trials.proofs.mailboxes.work.Goals as goal

pub returns : goal.returns
returns g c = let h = c.handle.ensures in works g.A.PathAlgebra.meaning c.args.floor.now c.args.seat.now c.args.part.now c.handle.new.self c.handle.result c.requires h.taken h.setup

use Rattle.worker_fleet.specs.Turns.{NextOn, IsOnItsFloor}
use Rattle.worker_fleet.proofs.Carried.{MovesEach-all, IsOnItsFloor-next}
use Rattle.engine_trials.proofs.workers.driven.Goals as goal

pub loop-preserved : goal.loop-preserved
loop-preserved g c =
    let did = c.drive-back.ensures in
    MovesEach-all (NextOn g.A.PathAlgebra.meaning c.args.floors.now 1) (IsOnItsFloor c.args.floors.now)
    (λ p q step placed. IsOnItsFloor-next g.A.PathAlgebra.meaning c.args.floors.now 1 p q placed step) did.counts _ _ did.moved c.loop.invariant

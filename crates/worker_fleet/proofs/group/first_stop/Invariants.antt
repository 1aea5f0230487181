use Rattle.worker_fleet.proofs.Words.{◌≡◌, AllWithin, Ended}
use Rattle.worker_fleet.proofs.group.first_stop.Given as goal

abbrev pub invariant-loop-worker : goal.invariant-loop-worker
invariant-loop-worker g l = AllWithin (λ r. r.outcome ≡ Ended) l.answers 0 l.worker

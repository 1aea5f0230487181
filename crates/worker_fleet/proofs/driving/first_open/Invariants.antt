use Rattle.worker_fleet.proofs.Words.{AllWithin, StationHasEnded}
use Rattle.worker_fleet.proofs.driving.first_open.Given as goal

abbrev pub invariant-loop-k : goal.invariant-loop-k
invariant-loop-k g l = AllWithin StationHasEnded l.stations l.from l.k

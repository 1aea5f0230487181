use Rattle.engine_trials.proofs.Words.{All, IsOnItsFloor}
use Rattle.engine_trials.proofs.workers.driven.Given as goal

abbrev pub invariant-loop : goal.invariant-loop
invariant-loop g l = All (IsOnItsFloor l.floors) l.stations.items

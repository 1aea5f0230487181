use Rattle.std.proofs.Common.{vec_len}
use Rattle.engine_trials.proofs.Words.{All, BelongsTo}
use Rattle.engine_trials.proofs.stations.gathering.finished.Given as goal

abbrev pub invariant-loop-station : goal.invariant-loop-station
invariant-loop-station g l = record { left : All (BelongsTo l.floor) l.stations.items; taken : All (BelongsTo l.floor) l.done.items }

abbrev pub decreases-loop-station : goal.decreases-loop-station
decreases-loop-station g l = vec_len l.stations

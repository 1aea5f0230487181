use Rattle.engine_trials.proofs.Words.{All, BelongsTo}
use Rattle.engine_trials.proofs.stations.peeks.assert_never_grows.Given as goal

abbrev pub invariant-loop-k : goal.invariant-loop-k
invariant-loop-k g l = All (BelongsTo l.floor) l.stations.items

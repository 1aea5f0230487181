use Rattle.std.specs.List.{All}
use Rattle.station.specs.Station.{BelongsTo}
use Rattle.batch_trials.proofs.turns.turns_to_the_end.Given as goal

abbrev pub invariant-loop-k : goal.invariant-loop-k
invariant-loop-k g l = All (BelongsTo l.floor) l.stations.items

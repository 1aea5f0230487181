use Rattle.station.specs.Station.{BelongsTo}
use Rattle.engine_trials.proofs.stations.threads.turned_to_end.Given as goal

abbrev pub invariant-loop : goal.invariant-loop
invariant-loop g l = BelongsTo l.floor l.station

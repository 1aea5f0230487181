use Rattle.std.proofs.Common.{◌≤◌, ◌+◌, vec_len, vec_capacity}
use Rattle.std.specs.List.{All}
use Rattle.station.proofs.Words.{AreHanded, BelongsTo}
use Rattle.station.proofs.gathering.hand_over.Given as goal

abbrev pub invariant-loop-station : goal.invariant-loop-station
invariant-loop-station g l = record {
  own : All (BelongsTo l.floor) l.stations.items;
  handed : AreHanded l.floor.id l.fn.stations.items l.stations.items l.seats.items l.tally;
  room : vec_len l.seats + vec_len l.stations ≤ vec_capacity l.seats;
}

abbrev pub decreases-loop-station : goal.decreases-loop-station
decreases-loop-station g l = vec_len l.stations

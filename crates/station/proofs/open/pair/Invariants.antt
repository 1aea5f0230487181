use Rattle.station.proofs.Words.{◌≡◌, List, ◌++◌, map, reverse, vec_len, All, PartData, seat_of, IsFreshPart, station_of}
use Rattle.station.proofs.open.pair.Given as goal

abbrev pub invariant-loop-part : goal.invariant-loop-part
invariant-loop-part g l = record {
  fresh : All (IsFreshPart g.A.PathAlgebra.meaning l.floor) l.parts.items;
  seats : l.seats.items ≡ map (seat_of l.floor.id l.floor.setup.plan.shards) l.parts.items;
  paired : (qs : List (PartData g.row.A.Denot g.row.A-Value.Denot)) × (reverse l.stations.items ≡ map (station_of l.floor.id l.floor.setup.plan.shards) qs) × (l.parts.items ++ qs ≡ l.fn.parts.items);
}

abbrev pub decreases-loop-part : goal.decreases-loop-part
decreases-loop-part g l = vec_len l.parts

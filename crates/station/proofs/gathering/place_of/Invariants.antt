use Rattle.std.proofs.Common.{◌≢◌}
use Rattle.std.specs.List.{AllWithin}
use Rattle.station.proofs.gathering.place_of.Given as goal

abbrev pub invariant-loop-k : goal.invariant-loop-k
invariant-loop-k g l = AllWithin (λ s. s.part.shard ≢ l.shard) l.stations 0 l.k

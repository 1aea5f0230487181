use Rattle.station.proofs.Words.{◌≡◌, length, ArePlaces}
use Rattle.station.proofs.gathering.places_of.Given as goal

abbrev pub invariant-loop-s : goal.invariant-loop-s
invariant-loop-s g l = record { places_are : ArePlaces l.s l.stations l.places; long : length l.places ≡ 64 }

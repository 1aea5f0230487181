-- The stations of a diffusion that was opened.
use Rattle.std.specs.Prelude.{◌≡◌, ℕ, false, Option, List, [], ◌∷◌, map}
use Rattle.std.specs.List.{All}
use Rattle.atomic_table.specs.Seated.{TableId}
use Rattle.path_algebra.specs.Algebra.{Algebra}
use Rattle.shard_store.specs.Setup.{SetupData}
use Rattle.shard_part.specs.PartState.{PartData}
use Rattle.post_floor.specs.Data.{FloorData, seat_of, first_parts}
use Rattle.post_floor.specs.Plays.{IsViewOf, HoldsReachedShare}
use Rattle.post_floor.specs.Seats.{knows}
use Rattle.station.specs.Station.{StationData, BelongsTo}

-- the station of a part as it is opened, at a floor of n shards
abbrev pub station_of : {S V : Type 0} → TableId → ℕ → PartData S V → StationData S V
station_of id n p = record { part = p; seat = seat_of id n p; ended = false }

-- the part is of the floor's diffusion, its seat's view has it, and it holds its share of a state
abbrev pub IsFreshPart : {S V : Type 0} → (S → Algebra V) → FloorData S → PartData S V → Type 0
IsFreshPart meaning f p = (p.setup ≡ f.setup) × IsViewOf (knows f.setup.plan.shards (p ∷ [])) p × HoldsReachedShare meaning p

-- the floor is that of the diffusion, with this weight by which a shard may run ahead, if there is
-- one; and there is one station of it for each shard, in order, with its part as it is opened
pub record AreOpened {S V : Type 0} (meaning : S → Algebra V) (t : SetupData S) (ahead : Option ℕ) (f : FloorData S) (stations : List (StationData S V)) : Type 0 where
  pub setup : f.setup ≡ t
  pub ahead_is : f.ahead ≡ ahead
  pub stations_are : stations ≡ map (station_of f.id t.plan.shards) (first_parts meaning t t.plan.shards)
  pub own : All (BelongsTo f) stations

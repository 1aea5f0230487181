-- Diffusions with one shard.
use Rattle.std.specs.Prelude.{◌≡◌, ℕ, List, slice_get, Some}
use Rattle.path_algebra.specs.Algebra.{Algebra}
use Rattle.shard_store.specs.Setup.{SetupData}
use Rattle.shard_part.specs.Opening.{opened_part}
use Rattle.post_floor.specs.Data.{FloorData}
use Rattle.station.specs.Opened.{station_of}
use Rattle.station.specs.OneShard.{HasOneShard, AreEnoughTurns}
use Rattle.station.specs.Station.{StationData}

-- a diffusion by this algebra with one shard, for which so many turns are enough
pub record IsBrief {S : Type 0} (algebra : S) (turns : ℕ) (t : SetupData S) : Type 0 where
  pub one : HasOneShard t
  pub by : t.diffusion.algebra ≡ algebra
  pub enough : AreEnoughTurns t turns

-- the station of such a diffusion, as it is opened, with the place of its floor
pub record IsWhole {A V : Type 0} (meaning : A → Algebra V) (algebra : A) (floors : List (FloorData A)) (turns : ℕ) (p : ℕ × StationData A V) : Type 0 where
  pub floor : FloorData A
  pub is_floor : slice_get floors p.0 ≡ Some floor
  pub brief : IsBrief algebra turns floor.setup
  pub fresh : p.1 ≡ station_of floor.id floor.setup.plan.shards (opened_part (meaning floor.setup.diffusion.algebra) floor.setup 0)

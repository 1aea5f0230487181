-- A station with the place of its floor, and what a turn does.
use Rattle.std.specs.Prelude.{◌≡◌, ◌⊎◌, ℕ, ◌+◌, ◌<◌, ◌≤◌, List, length, true, false, slice_get, slice_index, Some}
use Rattle.std.specs.List.{AllWithin, HoldsAt}
use Rattle.path_algebra.specs.Algebra.{Algebra}
use Rattle.post_floor.specs.Data.{FloorData}
use Rattle.station.specs.declared.turn.Report.{Report}
use Rattle.station.specs.Station.{StationData, BelongsTo}
use Rattle.station.specs.Turn.{Turned}

-- a station with the place of its floor, before and after one turn
pub record NextOn {A V : Type 0} (meaning : A → Algebra V) (floors : List (FloorData A)) (budget : ℕ) (before after : ℕ × StationData A V) : Type 0 where
  pub place : after.0 ≡ before.0
  pub floor : FloorData A
  pub is_floor : slice_get floors before.0 ≡ Some floor
  pub report : Report
  pub turned : Turned meaning floor budget before.1 report after.1

-- the place is below the number of floors and is that of the station's own
pub record IsOnItsFloor {A V : Type 0} (floors : List (FloorData A)) (p : ℕ × StationData A V) : Type 0 where
  pub floor : FloorData A
  pub is_floor : slice_get floors p.0 ≡ Some floor
  pub own : BelongsTo floor p.1

-- the station has ended
abbrev pub StationHasEnded : {A V : Type 0} → ℕ × StationData A V → Type 0
StationHasEnded p = p.1.ended ≡ true

-- the station has not
abbrev pub StationIsOpen : {A V : Type 0} → ℕ × StationData A V → Type 0
StationIsOpen p = p.1.ended ≡ false

-- the station at place k is the next that has not ended: from the place `at` on, and if there is
-- none, from the first
pub record IsNextOpen {A V : Type 0} (stations : List (ℕ × StationData A V)) (at k : ℕ) : Type 0 where
  pub inside : k < length stations
  pub here : HoldsAt StationIsOpen stations k
  pub nearest : ((at ≤ k) × AllWithin StationHasEnded stations at k) ⊎ ((k < at) × AllWithin StationHasEnded stations at (length stations) × AllWithin StationHasEnded stations 0 k)

-- Stations took these numbers of turns, in rotation in the order of the list: none has made two
-- turns more than one that has not ended, and none has made more than an earlier one that has not
-- ended.
pub record TookTurns {A V : Type 0} (counts : List ℕ) (stations : List (ℕ × StationData A V)) : Type 0 where
  pub fair : (i j : ℕ) → j < length stations → HoldsAt StationIsOpen stations j → slice_index counts i ≤ slice_index counts j + 1
  pub in_order : (i j : ℕ) → i < j → i < length stations → HoldsAt StationIsOpen stations i → slice_index counts j ≤ slice_index counts i

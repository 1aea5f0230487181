-- The stations of an ended diffusion, and the answer that is gathered from them.
use Rattle.std.specs.Prelude.{◌≡◌, ◌≢◌, ℕ, ◌<◌, false, List, length, get_or}
use Rattle.std.specs.List.{All, HoldsAt}
use Rattle.road_graph.specs.GraphData.{IsGraph, HasVertex}
use Rattle.path_algebra.specs.Algebra.{Algebra}
use Rattle.scholten_core.specs.declared.event.Event.{Event}
use Rattle.scholten_core.specs.Accounts.{Totals, totals_of, AreEqualTotals}
use Rattle.scholten_core.specs.Diffusion.{HasEnded, IsQuiet}
use Rattle.shard_store.specs.declared.tally.Tally.{Tally}
use Rattle.shard_store.specs.Setup.{SetupData, network_of}
use Rattle.shard_store.specs.Totals.{total}
use Rattle.shard_store.specs.Tallies.{tally_of}
use Rattle.shard_part.specs.OnePart.{AreBestFirstIfOne}
use Rattle.shard_part.specs.Represents.{core_of}
use Rattle.post_floor.specs.Data.{SeatData}
use Rattle.station.specs.declared.gathering.Gathered.{Gathered}
use Rattle.station.specs.declared.gathering.GatherFault.{GatherFault}
use Rattle.station.specs.declared.gathering.GatherFault.TheVariants.{Missing, Memory}
use Rattle.station.specs.Station.{StationData, AreBestFor}

module _ {S V : Type 0} where
  -- the station at k is that of the shard j
  abbrev pub IsAtPlace : List (StationData S V) → ℕ → ℕ → Type 0
  IsAtPlace stations j k = (k < length stations) × HoldsAt (λ s. s.part.shard ≡ j) stations k

  -- the station of the shard j is among these
  abbrev pub IsThere : List (StationData S V) → ℕ → Type 0
  IsThere stations j = (k : ℕ) × IsAtPlace stations j k

  -- it is not
  abbrev pub IsMissing : List (StationData S V) → ℕ → Type 0
  IsMissing stations j = All (λ s. s.part.shard ≢ j) stations

  -- the places of the stations of n shards
  abbrev pub ArePlaces : ℕ → List (StationData S V) → List ℕ → Type 0
  ArePlaces n stations places = (j : ℕ) → j < n → IsAtPlace stations j (get_or places j 0)

  -- the stations are of one diffusion
  abbrev pub AreOf : SetupData S → List (StationData S V) → Type 0
  AreOf t stations = All (λ s. s.part.setup ≡ t) stations

  -- the stations of the first n shards are among these
  abbrev pub AllThere : ℕ → List (StationData S V) → Type 0
  AllThere n stations = (j : ℕ) → j < n → IsThere stations j

  -- j is the least of n shards whose station is missing
  abbrev pub IsFirstMissing : ℕ → List (StationData S V) → ℕ → Type 0
  IsFirstMissing n stations j = (j < n) × IsMissing stations j × AllThere j stations

  -- why the answer was not gathered: a shard's station is missing, the least such shard; or all are
  -- there, and memory was refused
  abbrev pub IsGatherFault : ℕ → List (StationData S V) → GatherFault → Type 0
  IsGatherFault n stations (Missing j) = IsFirstMissing n stations j
  IsGatherFault n stations Memory = AllThere n stations

-- The diffusion is about a graph, from one of its vertices. Labels are best. Some events, counted
-- in full, lead to a state that has ended and is quiet; each counter of the tally is the lesser of
-- its total and its top, full exactly if a total reaches that, and all totals are the same. If
-- there is one shard, whose part takes its items best first, the events take the best waiting
-- message first.
pub record IsGathered {S V : Type 0} (meaning : S → Algebra V) (t : SetupData S) (g : Gathered V) : Type 0 where
  pub roads : IsGraph t.diffusion.roads
  pub source : HasVertex t.diffusion.roads t.diffusion.source
  pub labels : AreBestFor meaning t g.labels
  pub events : List Event
  pub ended : HasEnded (core_of meaning t events)
  pub quiet : IsQuiet (core_of meaning t events)
  pub tally : g.tally ≡ tally_of (totals_of (meaning t.diffusion.algebra) (network_of t) events)
  pub equal : AreEqualTotals (totals_of (meaning t.diffusion.algebra) (network_of t) events)
  pub best : AreBestFirstIfOne meaning t events

-- what seats have counted together
abbrev pub counts_of : {S V : Type 0} → List (SeatData S V) → Totals
counts_of seats = record {
  sent = total (λ d. d.knows.sent) seats;
  delivered = total (λ d. d.knows.delivered) seats;
  signalled = total (λ d. d.knows.signalled) seats;
  accepted = total (λ d. d.knows.accepted) seats;
}

-- what stations have counted together
abbrev pub counts_in : {S V : Type 0} → List (StationData S V) → Totals
counts_in stations = record {
  sent = total (λ s. s.seat.knows.sent) stations;
  delivered = total (λ s. s.seat.knows.delivered) stations;
  signalled = total (λ s. s.seat.knows.signalled) stations;
  accepted = total (λ s. s.seat.knows.accepted) stations;
}

-- all four counters are n, which is below their top
abbrev pub each_shows : ℕ → Tally
each_shows n = record { sent = n; delivered = n; signalled = n; accepted = n; full = false }

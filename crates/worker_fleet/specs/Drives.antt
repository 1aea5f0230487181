-- What a worker does with its stations.
use Rattle.std.specs.Prelude.{◌≡◌, ℕ, ◌+◌, ◌<◌, ◌≤◌, ◌↔◌, Bool, true, false, List, sum}
use Rattle.std.specs.List.{All}
use Rattle.path_algebra.specs.Algebra.{Algebra}
use Rattle.post_floor.specs.Data.{FloorData}
use Rattle.station.specs.Station.{StationData}
use Rattle.worker_fleet.specs.declared.driving.Driven.{Driven}
use Rattle.worker_fleet.specs.declared.driving.Outcome.TheVariants.{Ended, Stalled, Gated}
use Rattle.worker_fleet.specs.Turns.{NextOn, StationHasEnded, TookTurns}
use Rattle.worker_fleet.specs.Moves.{MovesEach}

-- a worker may have been answered true before each of its first `turns` turns, numbered from 1
abbrev pub LetsTurn : (ℕ → ℕ → Bool → Type 0) → (worker turns : ℕ) → Type 0
LetsTurn answers worker turns = (k : ℕ) → k < turns → answers worker (k + 1) true

-- a worker made its first turns, fewer than the limit, and was called off before the next
pub record WasCalledOff (answers : ℕ → ℕ → Bool → Type 0) (worker limit : ℕ) : Type 0 where
  pub turns : ℕ
  pub within : turns < limit
  pub asked : LetsTurn answers worker turns
  pub closed : answers worker (turns + 1) false

-- Each station was moved by some number of its own turns, in place and in rotation, and r says how
-- many these were together and why they stopped. `answers` says what a gate may answer to a worker
-- before a turn: it answered true to this worker before each turn that was made, and false before
-- the next if it stopped there.
pub record Drives {A V : Type 0} (meaning : A → Algebra V) (floors : List (FloorData A)) (budget limit : ℕ) (answers : ℕ → ℕ → Bool → Type 0) (worker : ℕ) (before : List (ℕ × StationData A V)) (r : Driven A V) : Type 0 where
  pub counts : List ℕ
  pub moved : MovesEach (NextOn meaning floors budget) counts before r.stations.items
  pub turns : sum counts ≡ r.turns
  pub took_turns : TookTurns counts r.stations.items
  pub limited : r.turns ≤ limit
  pub asked : LetsTurn answers worker r.turns
  pub ended : (r.outcome ≡ Ended) ↔ All StationHasEnded r.stations.items
  pub stalled : r.outcome ≡ Stalled → r.turns ≡ limit
  pub gated : r.outcome ≡ Gated → (r.turns < limit) × answers worker (r.turns + 1) false

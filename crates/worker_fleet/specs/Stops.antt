-- Why a group of diffusions is not run to its end.
use Rattle.std.specs.Prelude.{◌≡◌, ℕ, ◌+◌, ◌<◌, ◌≤◌, Bool, false, Option, List, length, Vec, slice_index_or}
use Rattle.std.specs.List.{AllWithin, HoldsAt}
use Rattle.std.specs.declared.alloc.Global.{Global}
use Rattle.path_algebra.specs.Algebra.{Algebra}
use Rattle.shard_store.specs.Setup.{SetupData}
use Rattle.post_floor.specs.Data.{FloorData}
use Rattle.station.specs.Opened.{AreOpened}
use Rattle.station.specs.Station.{StationData}
use Rattle.batch_settings.specs.declared.dealing.Dealing.{Dealing}
use Rattle.worker_fleet.specs.declared.driving.Driven.{Driven}
use Rattle.worker_fleet.specs.declared.driving.Outcome.TheVariants as outcomes
use Rattle.worker_fleet.specs.declared.group.GroupFault.{GroupFault}
use Rattle.worker_fleet.specs.declared.group.GroupFault.TheVariants.{Memory, Stalled, Gated}
use Rattle.worker_fleet.specs.Dealt.{share_of}
use Rattle.worker_fleet.specs.Drives.{Drives, LetsTurn}

-- the worker stopped before the end, and this fault says why
abbrev pub StopsBy : {A V : Type 0} → GroupFault → Driven A V → Type 0
StopsBy Memory r = ⊥
StopsBy Stalled r = r.outcome ≡ outcomes.Stalled
StopsBy Gated r = r.outcome ≡ outcomes.Gated

-- of all these workers the least numbered that stopped before the end did so by this fault
pub record IsFirstStop {A V : Type 0} (all : List (Driven A V)) (fault : GroupFault) : Type 0 where
  pub worker : ℕ
  pub inside : worker < length all
  pub stopped : HoldsAt (StopsBy fault) all worker
  pub earlier : AllWithin (λ r. r.outcome ≡ outcomes.Ended) all 0 worker

-- each worker drove the stations that it was dealt of the diffusions, by this rule, and the least
-- numbered that stopped before the end did so by this fault
pub record IsStop {A V Z : Type 0} (meaning : A → Algebra V) (floors : List (FloorData A)) (rule : Dealing) (budget limit workers : ℕ) (answers : ℕ → ℕ → Bool → Type 0) (diffusions : List (Vec (StationData A V) Z)) (fault : GroupFault) : Type 0 where
  pub all : List (Driven A V)
  pub count : length all ≡ workers
  pub drove : (w : ℕ) (d : Driven A V) → w < workers → Drives meaning floors budget limit answers w (share_of rule workers w 0 diffusions) (slice_index_or all w d)
  pub first : IsFirstStop all fault

-- Some diffusions of these setups, at most `width`, were opened together, each worker drove the
-- stations that it was dealt of them, by this rule, and the least numbered that stopped before the
-- end did so by this fault.
pub record StopsGroup {A V : Type 0} (meaning : A → Algebra V) (IsOne : SetupData A → Type 0) (rule : Dealing) (workers width budget limit : ℕ) (answers : ℕ → ℕ → Bool → Type 0) (fault : GroupFault) : Type 0 where
  pub count : ℕ
  pub few : count ≤ width
  pub setup : ℕ → SetupData A
  pub each : (q : ℕ) → q < count → IsOne (setup q)
  pub ahead : Option ℕ  -- by what weight a shard of them may run ahead
  pub floors : List (FloorData A)
  pub floors_are : length floors ≡ count
  pub diffusions : List (Vec (StationData A V) Global)
  pub diffusions_are : length diffusions ≡ count
  pub opened : (q : ℕ) (f : FloorData A) (stations : Vec (StationData A V) Global) → q < count →
      AreOpened meaning (setup q) ahead (slice_index_or floors q f) (slice_index_or diffusions q stations).items
  pub stop : IsStop meaning floors rule budget limit workers answers diffusions fault

-- the gate may have answered true to some worker before each turn up to the limit
pub record Stalls (answers : ℕ → ℕ → Bool → Type 0) (workers limit : ℕ) : Type 0 where
  pub worker : ℕ
  pub below : worker < workers
  pub asked : LetsTurn answers worker limit

-- some worker made its first turns, fewer than the limit, and was answered false before the next
pub record Closes (answers : ℕ → ℕ → Bool → Type 0) (workers limit : ℕ) : Type 0 where
  pub worker : ℕ
  pub turns : ℕ
  pub below : worker < workers
  pub within : turns < limit
  pub asked : LetsTurn answers worker turns
  pub closed : answers worker (turns + 1) false

-- what such a fault says of the workers and their gate; out of memory, or of threads, says nothing
-- of them
abbrev pub Says : (ℕ → ℕ → Bool → Type 0) → (workers limit : ℕ) → GroupFault → Type 0
Says answers workers limit Memory = Unit {0}
Says answers workers limit Stalled = Stalls answers workers limit
Says answers workers limit Gated = Closes answers workers limit

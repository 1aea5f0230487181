-- Where the stations of a group of diffusions are.
use Rattle.std.specs.Prelude.{◌≡◌, ℕ, List, [], ◌∷◌, ◌++◌, ◌⊎◌, true}
use Rattle.post_floor.specs.Data.{FloorData}
use Rattle.station.specs.Station.{StationData}
use Rattle.worker_fleet.specs.declared.driving.Driven.{Driven}
use Rattle.worker_fleet.specs.Dealt.{of_group}
use Rattle.worker_fleet.specs.Turns.{IsOnItsFloor}

-- the stations of diffusion q among all that the workers returned, worker by worker
unfoldable pub gathered : {A V : Type 0} → ℕ → List (Driven A V) → List (StationData A V)
gathered q [] = []
gathered q (r ∷ rs) = of_group q r.stations.items ++ gathered q rs

-- P holds of some element
unfoldable pub Some_of : {X : Type 0} → (X → Type 0) → List X → Type 0
Some_of P [] = ⊥
Some_of P (x ∷ xs) = P x ⊎ Some_of P xs

-- the station of shard k is among them
abbrev pub HasShard : {A V : Type 0} → ℕ → List (StationData A V) → Type 0
HasShard k stations = Some_of (λ s. s.part.shard ≡ k) stations

-- the station belongs to diffusion q, and has ended
abbrev pub IsDone : {A V : Type 0} → List (FloorData A) → ℕ → StationData A V → Type 0
IsDone floors q s = IsOnItsFloor floors (q, s) × (s.ended ≡ true)

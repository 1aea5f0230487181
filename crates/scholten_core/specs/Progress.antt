-- How a diffusion goes on: by an event that is enabled, to its end, and under events without an
-- end.
use Rattle.std.specs.Prelude.{◌≡◌, ℕ, zero, suc, ◌≤◌, ◌⊎◌, IsTrue, List, [], ◌∷◌, ◌++◌, length}
use Rattle.scholten_core.specs.declared.event.Event.{Event}
use Rattle.scholten_core.specs.declared.event.Event.TheVariants.{Deliver, Accept}
use Rattle.path_algebra.specs.Algebra.{Algebra}
use Rattle.scholten_core.specs.Network.{Network}
use Rattle.scholten_core.specs.Diffusion.{CoreState, run_from, state_after, is_enabled, count_enabled, HasEnded}

-- some event is enabled, on arc 0 or an arc of the graph
abbrev pub CanGoOn : {V : Type 0} → Network → CoreState V → Type 0
CanGoOn N c = (a : ℕ) × (a ≤ N.arcs)
    × (IsTrue (is_enabled c (Deliver a)) ⊎ IsTrue (is_enabled c (Accept a)))

-- the first n events of a sequence
abbrev pub first_events : (ℕ → Event) → ℕ → List Event
first_events event zero = []
first_events event (suc n) = first_events event n ++ event n ∷ []

module _ {V : Type 0} (A : Algebra V) (N : Network) where
  -- further events, each enabled in its turn, lead from c to the end
  abbrev pub CanEnd : CoreState V → Type 0
  CanEnd c =
      (more : List Event) × (count_enabled A N c more ≡ length more) × HasEnded (run_from A N c more)

  -- the state after the first n events
  abbrev pub state_at : (ℕ → Event) → ℕ → CoreState V
  state_at event n = state_after A N (first_events event n)

  -- after the first n events the diffusion has ended, or the next one is enabled
  abbrev pub GoesOnAt : (ℕ → Event) → ℕ → Type 0
  GoesOnAt event n = HasEnded (state_at event n) ⊎ IsTrue (is_enabled (state_at event n) (event n))

  -- until the diffusion has ended each event is enabled in its turn
  abbrev pub IsBusySchedule : (ℕ → Event) → Type 0
  IsBusySchedule event = (n : ℕ) → GoesOnAt event n

  -- until the diffusion has ended an event is enabled in its turn again and again
  abbrev pub KeepsGoing : (ℕ → Event) → Type 0
  KeepsGoing event = (n : ℕ) → (m : ℕ) × (n ≤ m) × GoesOnAt event m

  -- an event that is enabled comes at that time or later
  abbrev pub IsFairSchedule : (ℕ → Event) → Type 0
  IsFairSchedule event = (n : ℕ) (e : Event) → IsTrue (is_enabled (state_at event n) e) →
      (m : ℕ) × (n ≤ m) × (event m ≡ e)

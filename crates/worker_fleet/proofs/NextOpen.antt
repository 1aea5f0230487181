-- The next station that has not ended, of two looks: from a place on, and then from the first up to
-- it.
use Rattle.std.proofs.Common.{ℕ, ◌<◌, ◌≤◌, Option, Some, None, IfSome, List, length, inl, inr, arith}
use Rattle.std.specs.Prelude.{IfNone}
use Rattle.worker_fleet.proofs.Words.{All, AllWithin, HoldsAt, cases_lt, StationData, StationHasEnded, StationIsOpen, IsNextOpen}

module _ {A V : Type 0} (stations : List (ℕ × StationData A V)) (at : ℕ) (low : at ≤ length stations) (past : AllWithin StationHasEnded stations at (length stations)) where
  pub all_ended : (found : Option ℕ) → IfNone found (AllWithin StationHasEnded stations 0 at) → IfNone found (All StationHasEnded stations)
  all_ended (Some k) before = tt
  all_ended None before = λ k d l. elim (cases_lt k at) [ inl near ↦ before k d (omega arith) near | inr far ↦ past k d far l ]

  pub next_found : (found : Option ℕ) → IfSome found (λ k. (0 ≤ k) × (k < at)) → IfSome found (HoldsAt StationIsOpen stations) → IfSome found (AllWithin StationHasEnded stations 0) → IfSome found (IsNextOpen stations at)
  next_found None within here first = tt
  next_found (Some k) within here first = record { inside = let w = within.1 in omega (arith, w, low); here = here; nearest = inr (within.1, past, first) }

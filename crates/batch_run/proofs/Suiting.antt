-- A run under settings that suit ends by no fault of a setting.
use Rattle.std.proofs.Common.{◌≡◌, ◌≢◌, ◌↔◌, ◌∙◌, Bool, true, false, Option, None, Some, Result, Ok, Err, inr, refl, sym, ap}
use Rattle.batch_run.proofs.Words.{IsSome, Cost, NoFile, RunFault, Settings}
use Rattle.batch_settings.specs.Unsuited.{IsUnsuited}
use Rattle.batch_run.specs.Unsuited.{IsRefusedUnsuited}

-- the fault of an outcome, or this one
fault_or : RunFault → Result (Unit {0}) RunFault → RunFault
fault_or f (Ok u) = f
fault_or f (Err g) = g

some_if : {X : Type 0} (o : Option X) → o ≢ None → IsSome o
some_if None other = absurd (other refl)
some_if (Some x) other = refl

module _ (cost : Option Cost) (how : Settings) (suits : Bool) (suit : suits ≡ true) (exactly : (suits ≡ false) ↔ IsUnsuited cost how) where
  not_unsuited : IsUnsuited cost how → ⊥
  not_unsuited unsuited = let bad : true ≡ false = sym suit ∙ exactly.1 unsuited in cc

  -- if factors are chosen, the algebra has a cost
  pub has_cost : how.factors ≡ true → IsSome cost
  has_cost chosen = some_if cost (λ none. not_unsuited (inr (chosen, none)))

  -- it succeeds
  pub suited_whole : IsRefusedUnsuited cost how (Ok tt)
  suited_whole = (λ e. cc, λ unsuited. absurd (not_unsuited unsuited))

  -- another fault stopped it: of an input, or of another number
  pub suited_by : (f : RunFault) → (f.file ≡ NoFile → f.number ≢ 43) → IsRefusedUnsuited cost how (Err f)
  unfolding fault_or
  suited_by f other = (
    λ e. let same : f ≡ record { number = 43; file = NoFile; line = 0 } = ap (fault_or f) e in
        absurd (other (ap (λ (x : RunFault). x.file) same) (ap (λ (x : RunFault). x.number) same)),
    λ unsuited. absurd (not_unsuited unsuited),
  )

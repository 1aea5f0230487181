-- Causes by cases, and by their numbers.
use Rattle.batch_run.proofs.Words.{◌≡◌, ◌≢◌, ◌⊎◌, inl, inr, Bool, false, refl, ap, arith, MayStop, number_of, GroupFault, Cause, Unsolved, Write}
use Rattle.worker_fleet.specs.declared.group.GroupFault.TheVariants.{Memory, Stalled, Gated}

-- a cause is a failed write, or another
pub write_or_other : (cause : Cause) → (cause ≡ Write) ⊎ (cause ≢ Write)
write_or_other (Unsolved f) = inr (λ e. let bad : Unsolved f ≡ Write = e in cc)
write_or_other Write = inl refl

-- 42 reports a failed write
pub write_by_number : (cause : Cause) → number_of cause ≡ 42 → cause ≡ Write
write_by_number (Unsolved Memory) e = absurd (omega (arith, e))
write_by_number (Unsolved Stalled) e = absurd (omega (arith, e))
write_by_number (Unsolved Gated) e = absurd (omega (arith, e))
write_by_number Write e = refl

-- another number does not
pub other_by_number : (cause : Cause) → number_of cause ≢ 42 → cause ≢ Write
other_by_number cause other write = other (ap number_of write)

-- 40 and 41 report no want of memory
pub no_memory_by_number : (cause : Cause) → (number_of cause ≡ 40) ⊎ (number_of cause ≡ 41) → cause ≢ Unsolved Memory
no_memory_by_number cause why memory =
    let three : number_of cause ≡ 3 = ap number_of memory in
    elim why [ inl e ↦ omega (arith, e, three) | inr e ↦ omega (arith, e, three) ]

-- no cause is reported as a fault of a setting
pub no_setting : (cause : Cause) → number_of cause ≢ 43
no_setting (Unsolved Memory) e = omega (arith, e)
no_setting (Unsolved Stalled) e = omega (arith, e)
no_setting (Unsolved Gated) e = omega (arith, e)
no_setting Write e = omega (arith, e)

-- the numbers are these
pub numbered : (cause : Cause) → (number_of cause ≡ 3) ⊎ ((number_of cause ≡ 40) ⊎ ((number_of cause ≡ 41) ⊎ ((number_of cause ≡ 42) ⊎ (number_of cause ≡ 43))))
numbered (Unsolved Memory) = inl refl
numbered (Unsolved Stalled) = inr (inl refl)
numbered (Unsolved Gated) = inr (inr (inl refl))
numbered Write = inr (inr (inr (inl refl)))

module _ (undiffused : Bool) (stops : GroupFault → Type 0) where
  -- 40 reports a limit of turns
  pub stalled_by_number : (cause : Cause) → MayStop undiffused stops cause → number_of cause ≡ 40 → (undiffused ≡ false) × stops Stalled
  stalled_by_number (Unsolved Memory) may e = absurd (omega (arith, e))
  stalled_by_number (Unsolved Stalled) may e = may (λ same. let bad : Stalled ≡ Memory = same in cc)
  stalled_by_number (Unsolved Gated) may e = absurd (omega (arith, e))
  stalled_by_number Write may e = absurd (omega (arith, e))

  -- and 41 a gate
  pub gated_by_number : (cause : Cause) → MayStop undiffused stops cause → number_of cause ≡ 41 → (undiffused ≡ false) × stops Gated
  gated_by_number (Unsolved Memory) may e = absurd (omega (arith, e))
  gated_by_number (Unsolved Stalled) may e = absurd (omega (arith, e))
  gated_by_number (Unsolved Gated) may e = may (λ same. let bad : Gated ≡ Memory = same in cc)
  gated_by_number Write may e = absurd (omega (arith, e))

-- a cause says less of a group if its fault does
pub may_stop_weaker : (undiffused : Bool) (stops says : GroupFault → Type 0) → ((f : GroupFault) → stops f → says f) → (cause : Cause) → MayStop undiffused stops cause → MayStop undiffused says cause
may_stop_weaker undiffused stops says less (Unsolved f) may = λ other. let stop = may other in (stop.0, less f stop.1)
may_stop_weaker undiffused stops says less Write may = tt

-- A fault of a file, as a run reports it.
use Rattle.std.proofs.Common.{◌≡◌, ◌≢◌, ◌≤◌, ◌↔◌, ◌∙◌, ℕ, Result, Ok, Err, inl, inr, sym, ap, arith}
use Rattle.std.proofs.lemmas.Bool.{cases_eq}
use Rattle.text_lines.specs.Reads.{IsNumberFrom}
use Rattle.text_lines.specs.declared.faults.ReadFault.{ReadFault}
use Rattle.batch_inputs.specs.declared.faults.File.{File}
use Rattle.batch_inputs.specs.declared.faults.RunFault.{RunFault}

-- 1 is the number exactly if a read failed
pub failed_of : (number before after : ℕ) → (number ≡ 1 → after ≢ before) → (number ≢ 1 → after ≡ before) → (number ≡ 1) ↔ (after ≢ before)
failed_of number before after told untold = (
  told,
  λ failed. elim (cases_eq number 1) [
    | inl one ↦ one
    | inr other ↦ absurd (failed (untold other))
  ],
)

abbrev failed_by : RunFault → Result (Unit {0}) RunFault
failed_by f = Err f

number_of : Result (Unit {0}) RunFault → ℕ
number_of (Ok u) = 0
number_of (Err f) = f.number

module _ (file : File) (f : ReadFault) (r : RunFault) (is : r ≡ record { number = f.number; file = file; line = f.line }) where
  -- 1 is reported exactly if a read failed
  pub told_of : (before after : ℕ) → (f.number ≡ 1 → after ≢ before) → (f.number ≢ 1 → after ≡ before) → (f.number ≤ 3 → f.line ≡ 0) →
      (failed_by r ≡ failed_by (record { number = 1; file = file; line = 0 })) ↔ (after ≢ before)
  unfolding number_of
  told_of before after told untold placed = (
    λ e. told (sym (ap (λ (x : RunFault). x.number) is) ∙ ap number_of e),
    λ failed. elim (cases_eq f.number 1) [
      | inl one ↦
          ap failed_by
          (is ∙ ap (λ (n : ℕ). record { number = n; file = file; line = f.line }) one ∙ ap (λ (l : ℕ). record { number = 1; file = file; line = l }) (placed (omega (arith, one))))
      | inr other ↦ absurd (failed (untold other))
    ],
  )

  -- it is of its file, and of no setting
  pub of_file : r.file ≡ file
  of_file = ap (λ (x : RunFault). x.file) is

  pub no_setting : IsNumberFrom 10 19 f.number → r.number ≢ 43
  no_setting (inl low) e = let same = ap (λ (x : RunFault). x.number) is in let high = low.1 in omega (arith, same, high, e)
  no_setting (inr text) e = let same = ap (λ (x : RunFault). x.number) is in let high = text.1 in omega (arith, same, high, e)

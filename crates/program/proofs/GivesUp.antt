-- A command that no limit of turns and no gate stops does not end with their status.
use Rattle.std.proofs.Common.{◌≡◌, ◌≢◌, ℕ, List, Option, None, Some, Result, Ok, Err, sym, ap, ◌∙◌, arith}
use Rattle.program.proofs.Words.{IfErr, Output, RunFault}
use Rattle.std.proofs.lemmas.Bool.Decides.{nat_tests}
use Rattle.fault_reports.specs.Reports.{EndsAs, status_of}
use Rattle.program.specs.Watching.{Account, outcome_of}

-- 6 is the status of faults 40 and 41 alone
not_six : (number : ℕ) → number ≢ 40 → number ≢ 41 → status_of number ≢ 6
not_six number stalled gated six = grind (arith, nat_tests)

module _ {A E : Type 0} (text : List ℕ) (errors errors_after : Output E) (result : ℕ) where
  -- lost accounts are fault 42
  keeps : (old new : Option (Output A)) (kept : Result (Unit {0}) RunFault) → Account text old new kept → EndsAs (λ _. 0) errors errors_after kept result → result ≢ 6
  keeps old new (Ok u) accounted ends six = let none = ends.0 in omega (arith, none, six)
  keeps None new (Err f) accounted ends six = let bad : Err f ≡ Ok tt = accounted.1 in cc
  keeps (Some a) None (Err f) accounted ends six = accounted
  keeps (Some a) (Some b) (Err f) accounted ends six =
      let write : f.number ≡ 42 = ap (λ (x : RunFault). x.number) accounted.0 in
      not_six f.number (λ e. omega (arith, write, e)) (λ e. omega (arith, write, e)) (sym ends.0 ∙ six)

  pub finishes : (old new : Option (Output A)) (outcome kept : Result (Unit {0}) RunFault) → IfErr outcome (λ f. f.number ≢ 40) → IfErr outcome (λ f. f.number ≢ 41) → Account text old new kept
      → EndsAs (λ _. 0) errors errors_after (outcome_of outcome kept) result → result ≢ 6
  finishes old new (Ok u) kept unstalled ungated accounted ends = keeps old new kept accounted ends
  finishes old new (Err f) kept unstalled ungated accounted ends = λ six. not_six f.number unstalled ungated (sym ends.0 ∙ six)

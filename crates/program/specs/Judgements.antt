-- What judging leaves, between two moments of its inputs and its output.
use Rattle.std.specs.Prelude.{◌≡◌, ◌≢◌, ℕ, ◌+◌, ◌≤◌, ◌↔◌, ◌⊎◌, Option, Result, Ok, Err, OnOk, IfOk, IfErr}
use Rattle.answer_check.specs.declared.verdict.Verdict.{Verdict}
use Rattle.batch_inputs.specs.declared.faults.File.{File}
use Rattle.batch_inputs.specs.declared.faults.File.TheVariants.{Graph, Questions, Answers, NoFile}
use Rattle.batch_inputs.specs.declared.faults.RunFault.{RunFault}
use Rattle.batch_inputs.specs.Inputs.{HasReadPair}
use Rattle.batch_run.specs.Runs.{Input, Output}
use Rattle.fault_reports.specs.Reports.{EndsAs, Reaches, ReportsFault}
use Rattle.program.specs.Verdicts.{IsJudged, IsAnswersFault, IsOwnFault, IsLimitFault, IsReadingFault, verdict_text, verdict_status}

-- a fault of the graph or of the questions came of reading them; before any other they were read
abbrev pub fault_of_pair : File → RunFault → Result (Unit {0}) RunFault
fault_of_pair Graph f = Err f
fault_of_pair Questions f = Err f
fault_of_pair _ f = Ok tt

-- how reading the graph and the questions ended, of a run that ends like this
abbrev pub outcome_of_pair : {X : Type 0} → Result X RunFault → Result (Unit {0}) RunFault
outcome_of_pair (Ok x) = Ok tt
outcome_of_pair (Err f) = fault_of_pair f.file f

-- answers were read after a graph and questions, or a fault stopped that, or it came later
pub record HasReadAnswers {X S : Type 0} (answers answers_after : Input S) (outcome : Result X RunFault) : Type 0 where
  -- without a fault no read of them failed
  pub sound : OnOk outcome (answers_after.failures ≡ answers.failures)
  -- 1 is reported of them exactly if a read of them failed
  pub failed : (outcome ≡ Err (record { number = 1; file = Answers; line = 0 })) ↔ (answers_after.failures ≢ answers.failures)
  -- after a fault of the graph or of the questions they are as they were
  pub last : IfErr outcome (λ f. (f.file ≡ Graph) ⊎ (f.file ≡ Questions) → answers_after ≡ answers)
  -- at most 2 ^ 32 + 1 reads of them were asked for
  pub asked : answers_after.asked ≤ answers.asked + 4294967297

-- the answers of one input to the questions of another over the graph of a third were judged, or
-- this fault stopped it
pub record RanJudge {G Q S : Type 0} (given : Option ℕ) (first first_after : Input G) (second second_after : Input Q) (third third_after : Input S) (outcome : Result Verdict RunFault) : Type 0 where
  -- the one verdict on what the inputs spell
  pub judged : IfOk outcome (IsJudged first.left second.left third.left given)
  -- how the graph and the questions were read
  pub pair : HasReadPair first first_after second second_after (outcome_of_pair outcome)
  -- and how the answers were
  pub read : HasReadAnswers third third_after outcome
  -- a fault of the answers is their first one, or they name an algebra of a caller's own; the graph
  -- and the questions have none
  pub answers : IfErr outcome (λ f. f.file ≡ Answers → IsAnswersFault first.left second.left third.left f ⊎ IsOwnFault first.left second.left third.left f)
  -- 43 is reported only of a limit that does not go with the algebra that the answers name
  pub limit : IfErr outcome (λ f. f.number ≡ 43 → IsLimitFault first.left second.left third.left given)
  -- a fault is one of an input, with a number of its own, or want of memory or a limit
  pub kinds : IfErr outcome (λ f. IsReadingFault f ⊎ ((f.file ≡ NoFile) × (f.line ≡ 0) × ((f.number ≡ 3) ⊎ (f.number ≡ 43))))
  -- 1 to 3 have no line
  pub placed : IfErr outcome (λ f. f.number ≤ 3 → f.line ≡ 0)

-- the verdict reached the output, and gives the exit status; or it could not be written, which is
-- reported
pub record ShowsVerdict {W E : Type 0} (verdict : Verdict) (out out_after : Output W) (errors errors_after : Output E) (result : ℕ) : Type 0 where
  pub outcome : Result (Unit {0}) RunFault
  pub reaches : Reaches (verdict_text verdict) out out_after outcome
  pub ends : EndsAs (λ _. verdict_status verdict) errors errors_after outcome result

-- how a check ends, after judging came to this: a fault is reported, and the output is as it was
abbrev pub EndsCheck : {W E : Type 0} → Result Verdict RunFault → Output W → Output W → Output E → Output E → ℕ → Type 0
EndsCheck (Ok verdict) out out_after errors errors_after result = ShowsVerdict verdict out out_after errors errors_after result
EndsCheck (Err f) out out_after errors errors_after result = (out_after ≡ out) × ReportsFault f errors errors_after result

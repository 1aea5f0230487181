-- How a command ends: what it shows, the line that reports a fault, and the exit status.
use Rattle.std.specs.Prelude.{◌≡◌, ℕ, ◌⊎◌, ◌<◌, List, [], ◌∷◌, ◌++◌, Result, Ok, Err, codes, decimal, nat_eq, if◌then◌else◌, ◌||◌}
use Rattle.std.specs.Io.KnownBytes.{Appends}
use Rattle.text_lines.specs.Written.{WrotePrefix, FailedAfterPrefix}
use Rattle.batch_inputs.specs.declared.faults.File.TheVariants.{NoFile}
use Rattle.batch_inputs.specs.declared.faults.RunFault.{RunFault}
use Rattle.batch_inputs.specs.FaultTexts.{file_text, line_text}
use Rattle.text_lines.specs.Streams.{Output}

-- the line that reports a fault
abbrev pub fault_text : RunFault → List ℕ
fault_text f = codes "diffuse: fault " ++ decimal f.number ++ file_text f.file ++ line_text f.line ++ 10 ∷ []

-- the exit status of a fault: 2 for a setting, 4 for memory, 5 for a write, 6 for a limit or gate,
-- 3 for an input
abbrev pub status_of : ℕ → ℕ
status_of number =
    if nat_eq number 43 then 2
    else if nat_eq number 3 then 4
    else if nat_eq number 42 then 5
    else if nat_eq number 40 || nat_eq number 41 then 6
    else 3

-- the text was written, whole, and nothing else; or a prefix of it, and then a write failed
abbrev pub IsReported : {E : Type 0} → List ℕ → Output E → Output E → Type 0
IsReported text errors errors_after =
    WrotePrefix errors errors_after text []
    ⊎ FailedAfterPrefix errors errors_after text

-- a fault ends a command: its line is written on the error output, and the exit status is its own
abbrev pub ReportsFault : {E : Type 0} → RunFault → Output E → Output E → ℕ → Type 0
ReportsFault f errors errors_after result = (result ≡ status_of f.number) × IsReported (fault_text f) errors errors_after

-- the exit status of an outcome: a fault has its own, and its line is written on the error output;
-- else nothing is written there
abbrev pub EndsAs : {A E : Type 0} → (A → ℕ) → Output E → Output E → Result A RunFault → ℕ → Type 0
EndsAs status errors errors_after (Ok x) result = (result ≡ status x) × (errors_after.written ≡ errors.written) × (errors_after.failures ≡ errors.failures)
EndsAs status errors errors_after (Err f) result = ReportsFault f errors errors_after result

-- a fault of the run, with no file and no line
abbrev pub run_fault : ℕ → RunFault
run_fault number = record { number = number; file = NoFile; line = 0 }

-- a text was written on the output, whole, and nothing is held back; or a write failed, and that is
-- fault 42
abbrev pub Reaches : {W : Type 0} → List ℕ → Output W → Output W → Result (Unit {0}) RunFault → Type 0
Reaches text out out_after (Ok _) = Appends out.written out_after.written text × (out_after.held ≡ []) × (out_after.failures ≡ out.failures)
Reaches text out out_after (Err f) = (f ≡ run_fault 42) × (out.failures < out_after.failures)

-- what is wrong was said on the error output, and the status is that of wrong usage
abbrev pub ReportsUsage : {E : Type 0} → List ℕ → Output E → Output E → ℕ → Type 0
ReportsUsage text errors errors_after result = (result ≡ 2) × IsReported text errors errors_after

-- some text was said on the error output alone, with status 2
pub record IsUsage {W E : Type 0} (out out_after : Output W) (errors errors_after : Output E) (result : ℕ) : Type 0 where
  pub text : List ℕ
  pub unwritten : out_after ≡ out
  pub reports : ReportsUsage text errors errors_after result

-- What is said of a command that reads nothing.
use Rattle.std.specs.Prelude.{ℕ, List}
use Rattle.text_lines.specs.Streams.{Output}
use Rattle.command_files.specs.declared.refusal.Refusal.{Refusal}
use Rattle.command_files.specs.declared.refusal.Refusal.TheVariants.{Fault}
use Rattle.fault_reports.specs.Reports.{ReportsFault, ReportsUsage}

-- a fault is reported; else some text says what is wrong, and the status is that of wrong usage
abbrev pub Says : {E : Type 0} → Refusal → Output E → Output E → ℕ → Type 0
Says (Fault f) errors errors_after result = ReportsFault f errors errors_after result
Says _ errors errors_after result = (text : List ℕ) × ReportsUsage text errors errors_after result

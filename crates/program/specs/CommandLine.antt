-- What the words of a command line lead to.
use Rattle.std.specs.Prelude.{◌≡◌, ℕ, ◌⊎◌, List, Result}
use Rattle.clap.specs.declared.error.kind.ErrorKind.{ErrorKind}
use Rattle.clap.specs.declared.error.kind.ErrorKind.TheVariants.{DisplayHelp, DisplayVersion, OutOfMemory}
use Rattle.batch_inputs.specs.declared.faults.RunFault.{RunFault}
use Rattle.command_args.specs.declared.parsed.Subcommand.{Subcommand}
use Rattle.command_args.specs.declared.parsed.Subcommand.TheVariants.{Solve, Bundle, Serve, Check, Order, Faults}
use Rattle.command_args.specs.Asked.{AskFor, AskForNone}
use Rattle.fault_reports.specs.declared.rows.FaultRow.{FaultRow}
use Rattle.fault_reports.specs.Reports.{EndsAs, IsUsage, Reaches, ReportsFault, run_fault}
use Rattle.fault_reports.specs.Explained.{Explains, IsFaultTable}
use Rattle.program.specs.Commands.{DoesBundle, DoesCheck, DoesServe, DoesSolve, IsRefused}
use Rattle.command_files.specs.declared.files.FileSystem.{Ghosts}
use Rattle.command_files.specs.declared.refusal.Refusal.{Refusal}
use Rattle.command_files.specs.declared.refusal.Refusal.TheVariants.{Fault, NoText}
use Rattle.command_files.specs.Moments.{Moment}
use Rattle.program.specs.Ordering.{DoesOrder}

-- a subcommand over files that are opened and created so
abbrev pub DoesSubcommand : {P F I N W E : Type 0} → Ghosts P F I N → Subcommand → Moment P W E → Moment P W E → ℕ → Type 0
DoesSubcommand G (Solve args) old new result = DoesSolve G args old new result
DoesSubcommand G (Bundle args) old new result = DoesBundle G args old new result
DoesSubcommand G (Serve args) old new result = DoesServe G args old new result
DoesSubcommand G (Check args) old new result = DoesCheck G args old new result
DoesSubcommand G (Order args) old new result = DoesOrder G args old new result
DoesSubcommand G (Faults numbers) old new result =
    (new.files ≡ old.files) × ((table : List FaultRow) × IsFaultTable table × Explains table numbers.items old.out new.out old.errors new.errors result)

-- some text reached the output, with status 0; or it could not be written, which is reported as
-- fault 42
pub record IsShown {P W E : Type 0} (old new : Moment P W E) (result : ℕ) : Type 0 where
  pub text : List ℕ
  pub outcome : Result (Unit {0}) RunFault
  pub reaches : Reaches text old.out new.out outcome
  pub ends : EndsAs (λ _. 0) old.errors new.errors outcome result

-- what is said of words by what they are: help and the version on the output; of wrong words, a
-- usage fault on the error output
abbrev pub SaysBy : {P W E : Type 0} → ErrorKind → Moment P W E → Moment P W E → ℕ → Type 0
SaysBy DisplayHelp old new result = IsShown old new result
SaysBy DisplayVersion old new result = IsShown old new result
SaysBy OutOfMemory old new result = ⊥
SaysBy _ old new result = IsUsage old.out new.out old.errors new.errors result

-- what is said of words that ask for no subcommand, and no file is opened; or memory was refused
pub record IsSaid {P W E : Type 0} (kind : ErrorKind) (old new : Moment P W E) (result : ℕ) : Type 0 where
  pub unopened : new.files ≡ old.files
  pub said : SaysBy kind old new result ⊎ ((new.out ≡ old.out) × ReportsFault (run_fault 3) old.errors new.errors result)

-- the subcommand that the words ask for was done; or they ask for none, or memory was refused, and
-- that was said
abbrev pub DoesCommandLine : {P F I N W E : Type 0} → Ghosts P F I N → List (List ℕ) → Moment P W E → Moment P W E → ℕ → Type 0
DoesCommandLine G words old new result =
    ((subcommand : Subcommand) × AskFor words subcommand × DoesSubcommand G subcommand old new result)
    ⊎ ((kind : ErrorKind) × AskForNone words kind × IsSaid kind old new result)

-- the system gives no words: one of them is no text, or memory was refused
abbrev pub AreNoWords : Refusal → Type 0
AreNoWords refusal = (refusal ≡ NoText) ⊎ (refusal ≡ Fault (run_fault 3))

-- what some words ask for was done, those that the system gave; or it gave none, and that was said
abbrev pub RunsWords : {P F I N W E : Type 0} → Ghosts P F I N → Moment P W E → Moment P W E → ℕ → Type 0
RunsWords G old new result =
    ((words : List (List ℕ)) × DoesCommandLine G words old new result)
    ⊎ IsRefused (λ files refusal. (files ≡ old.files) × AreNoWords refusal) old new result

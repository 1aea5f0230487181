-- What the watcher of a command writes, and how a command ends that is watched.
use Rattle.std.specs.Prelude.{◌≡◌, ◌≢◌, ◌⊎◌, ℕ, ◌<◌, ◌≤◌, List, [], Bool, true, false, Option, Some, None, Result, Ok, Err}
use Rattle.std.specs.Io.KnownBytes.{Appends, Keeps}
use Rattle.batch_inputs.specs.declared.faults.RunFault.{RunFault}
use Rattle.batch_run.specs.declared.watcher.Progress.{Progress}
use Rattle.batch_run.specs.Reports.{AreReports}
use Rattle.text_lines.specs.Streams.{Output}
use Rattle.path_algebra.specs.Choices.{Under, name_of}
use Rattle.program.specs.declared.watch.watcher.CommandWatcher.{CommandWatcher}
use Rattle.program.specs.Accounts.{account_of, accounts_text}
use Rattle.program.specs.Progress.{all_after, left_after, patience, progress_text, shown_at}
use Rattle.fault_reports.specs.Reports.{EndsAs, Reaches, run_fault}
use Rattle.command_files.specs.Added.{IsAdded}
use Rattle.program.specs.Runs.{Given, RanUnder}

-- the text was added, if progress is shown, or a write failed; else nothing was done
abbrev pub IsAddedIf : {E X : Type 0} → (E → Output X) → Bool → E → E → List ℕ → Type 0
IsAddedIf shown true old new text = IsAdded (shown old) (shown new) text
IsAddedIf shown false old new text = new ≡ old

-- the text was added to accounts, if they are kept, and no write failed
abbrev pub AreKept : {A : Type 0} → (A → Output A) → Option A → Option A → List ℕ → Type 0
AreKept seen None new text = new ≡ None
AreKept seen (Some a) None text = ⊥
AreKept seen (Some a) (Some b) text = Appends (seen a).written (seen b).written text × ((seen b).failures ≡ (seen a).failures)

-- a write to the accounts failed
abbrev pub AreLost : {A : Type 0} → (A → Output A) → Option A → Option A → Type 0
AreLost seen None new = ⊥
AreLost seen (Some a) None = ⊥
AreLost seen (Some a) (Some b) = (seen a).failures < (seen b).failures

-- a text was to be added to accounts: they have it, or they are lost, since a write failed; lost
-- accounts stay as they are
pub record HasAccounts {A : Type 0} (seen : A → Output A) (old new : Option A) (lost lost_after : Bool) (text : List ℕ) : Type 0 where
  pub kept : lost_after ≡ false → (lost ≡ false) × AreKept seen old new text
  pub fell : lost_after ≡ true → (lost ≡ true) ⊎ AreLost seen old new
  pub stays : lost ≡ true → (lost_after ≡ true) × (new ≡ old)

-- what the watcher of a command does at a report
pub record Notes {A E M : Type 0} (seen : A → Output A) (shown : E → Output E) (old : CommandWatcher A E M) (report : Progress) (new : CommandWatcher A E M) : Type 0 where
  -- it goes on to write to the same files
  pub same : (new.accounts.ghost_name ≡ old.accounts.ghost_name) × (new.errors.ghost_name ≡ old.errors.ghost_name)
  -- under the same name, and shows progress as before
  pub name : new.name ≡ old.name
  pub progress : new.progress ≡ old.progress
  -- it knows how many questions there are, and how many messages are left
  pub all : new.all ≡ all_after old.all report
  pub left : new.left ≡ left_after old.left report
  -- the accounts have what the report adds to them
  pub accounts : HasAccounts seen old.accounts.now new.accounts.now old.lost new.lost (account_of old.name report)
  -- and so has the error output, if progress is shown
  pub errors : IsAddedIf shown old.progress old.errors.now new.errors.now (shown_at old.all old.left report)

-- accounts, if they are wanted, have the text, and nothing is held back; or a write failed, and
-- that is fault 42
abbrev pub Account : {A : Type 0} → List ℕ → Option (Output A) → Option (Output A) → Result (Unit {0}) RunFault → Type 0
Account text None after kept = (after ≡ None) × (kept ≡ Ok tt)
Account text (Some a) None kept = ⊥
Account text (Some a) (Some b) kept = Reaches text a b kept

-- accounts, if they are wanted, are passed on, and have what they had; or a write failed, before or
-- then, and that is fault 42
abbrev pub EndsAccounts : {A : Type 0} → (A → Output A) → Option A → Option A → Bool → Result (Unit {0}) RunFault → Type 0
EndsAccounts seen None new lost result = (new ≡ None) × (result ≡ Ok tt)
EndsAccounts seen (Some a) None lost result = ⊥
EndsAccounts seen (Some a) (Some b) lost (Ok _) = (lost ≡ false) × Keeps (seen a).written (seen b).written × ((seen b).held ≡ []) × ((seen b).failures ≡ (seen a).failures)
EndsAccounts seen (Some a) (Some b) lost (Err f) = (f ≡ run_fault 42) × (((lost ≡ true) × (b ≡ a)) ⊎ ((seen a).failures < (seen b).failures))

-- a fault of the batch is that of the command; else one of the accounts is
abbrev pub outcome_of : Result (Unit {0}) RunFault → Result (Unit {0}) RunFault → Result (Unit {0}) RunFault
outcome_of (Ok _) kept = kept
outcome_of (Err f) kept = Err f

-- How a command ends that answers what an input spells: what answering leaves, what was reported of
-- it, that the accounts are those of the reports, what was shown on the error output, and the exit
-- status; a fault is reported last.
pub record EndsWatched {W A E : Type 0} (given : Given) (progress : Bool) (out out_after : Output W) (accounts accounts_after : Option (Output A)) (errors errors_after : Output E) (result : ℕ) : Type 0 where
  pub outcome : Result (Unit {0}) RunFault
  pub ran : RanUnder given out out_after outcome
  pub reports : List Progress
  pub reported : Under given.chosen (λ V A. AreReports A given.settings given.is_read out out_after outcome reports)
  pub kept : Result (Unit {0}) RunFault
  pub accounted : Account (accounts_text (name_of given.chosen) reports) accounts accounts_after kept
  pub watched : Output E
  pub shown : IsAddedIf (λ e. e) progress errors watched (progress_text 0 patience reports)
  pub ends : EndsAs (λ _. 0) watched errors_after (outcome_of outcome kept) result
  -- with one shard, best first, and a limit of turns that is enough for every graph, as the usual
  -- one is, the exit status is not 6
  pub finishes : given.settings.shards ≡ 1 → given.settings.best_first ≡ true → 17179869376 ≤ given.settings.turns → result ≢ 6

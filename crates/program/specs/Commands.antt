-- What the commands do: what they try, in what order, and what they then read and write.
use Rattle.std.specs.Prelude.{◌≡◌, ℕ, ◌⊎◌, ◌↔◌, List, [], ◌∷◌, Option, Result, IsSome, is_some, false}
use Rattle.answer_check.specs.declared.verdict.Verdict.{Verdict}
use Rattle.path_algebra.specs.declared.choice.AlgebraChoice.{AlgebraChoice}
use Rattle.path_algebra.specs.Choices.{Under, arc_cost_of}
use Rattle.batch_inputs.specs.declared.faults.RunFault.{RunFault}
use Rattle.batch_inputs.specs.Inputs.{HasReadBundle, HasReadPair}
use Rattle.batch_inputs.specs.Orders.{HasReadOrdered, IsOrderedFile, IsRunFile}
use Rattle.batch_inputs.specs.Spelled.{IsBundleOf, IsPairOf}
use Rattle.batch_inputs.specs.InputFaults.{IsBundleFile, IsPairFile}
use Rattle.batch_run.specs.Runs.{Input, Output}
use Rattle.batch_run.specs.Unsuited.{IsRefusedUnsuited}
use Rattle.service.specs.Served.{RanService}
use Rattle.command_args.specs.declared.parsed.BundleArgs.{BundleArgs}
use Rattle.command_args.specs.declared.parsed.CheckArgs.{CheckArgs}
use Rattle.command_args.specs.declared.parsed.ServeArgs.{ServeArgs}
use Rattle.command_args.specs.declared.parsed.SolveArgs.{SolveArgs}
use Rattle.command_args.specs.declared.parsed.WatchOptions.{WatchOptions}
use Rattle.fault_reports.specs.Reports.{EndsAs}
use Rattle.command_files.specs.declared.files.FileSystem.{Ghosts}
use Rattle.command_files.specs.declared.opened_input.OpenedInput.{OpenedInput}
use Rattle.command_files.specs.declared.refusal.Refusal.{Refusal}
use Rattle.command_files.specs.Inputs.{stdin_name}
use Rattle.program.specs.Judgements.{EndsCheck, RanJudge}
use Rattle.command_files.specs.Moments.{Moment}
use Rattle.command_files.specs.Opening.{CannotChoose, CannotCreate, CannotOpen, CreatesIf, HasOpened, IsChosen, accounts_name, inputs_bundled, inputs_judged, inputs_paired, one_if, written_names}
use Rattle.command_files.specs.Refusals.{Says}
use Rattle.program.specs.Runs.{Given, gate_is_open, given_of}
use Rattle.command_files.specs.Times.{ShowsTimes}
use Rattle.program.specs.Watching.{EndsWatched}

-- a command was refused, for a reason that leaves the files so: its output is as it was, and the
-- reason is said
pub record IsRefused {P W E : Type 0} (Why : P → Refusal → Type 0) (old new : Moment P W E) (result : ℕ) : Type 0 where
  pub refusal : Refusal
  pub why : Why new.files refusal
  pub unwritten : new.out ≡ old.out
  pub says : Says refusal old.errors new.errors result

-- the file of accounts was created, if they are wanted; it is none of these others
pub record Creates {P F I N : Type 0} (G : Ghosts P F I N) (others : List (List ℕ)) (watching : WatchOptions) (accounts : Option (Output N)) (files files_after : P) : Type 0 where
  pub tried : CreatesIf G.creates G.tells_same others (accounts_name watching) files files_after
  pub wanted : IsSome accounts ↔ IsSome watching.accounts

-- the files that `solve` reads, and those that its other output goes to: none of them is that of
-- the accounts
abbrev pub taken_solved : SolveArgs → List (List ℕ)
taken_solved args = args.graph.now ∷ args.questions.now ∷ written_names

-- so of `bundle`, which reads standard input
abbrev pub taken_bundled : List (List ℕ)
taken_bundled = stdin_name ∷ written_names

-- the file of accounts was created; then the questions of an input were answered, and at last times
-- were shown, if they are wanted
pub record AnswersWatched {P F I N W E : Type 0} (G : Ghosts P F I N) (others : List (List ℕ)) (watching : WatchOptions) (given : Given) (old new : Moment P W E) (result : ℕ) : Type 0 where
  pub accounts : Option (Output N)
  pub accounts_after : Option (Output N)
  pub answered : Moment P W E
  pub created : Creates G others watching accounts old.files answered.files
  pub ends : EndsWatched given watching.progress old.out answered.out accounts accounts_after old.errors answered.errors result
  pub timed : ShowsTimes watching.times result answered new

-- the file of accounts was created and the questions were answered; or it can't be, which is said
abbrev pub Answers : {P F I N W E : Type 0} → Ghosts P F I N → List (List ℕ) → WatchOptions → Given → Moment P W E → Moment P W E → ℕ → Type 0
Answers G others watching given old new result =
    IsRefused (CannotCreate G.creates G.tells_same others (accounts_name watching) old.files) old new result
    ⊎ AnswersWatched G others watching given old new result

-- the inputs were opened; then their questions were answered
pub record SolvesChosen {P F I N W E : Type 0} (G : Ghosts P F I N) (chosen : AlgebraChoice) (args : SolveArgs) (old new : Moment P W E) (result : ℕ) : Type 0 where
  pub opened : P
  pub roads : Input (OpenedInput F I)
  pub roads_after : Input (OpenedInput F I)
  pub questions : Input (OpenedInput F I)
  pub questions_after : Input (OpenedInput F I)
  pub order : Option (Input (OpenedInput F I))
  pub order_after : Option (Input (OpenedInput F I))
  pub inputs : HasOpened G.opens (inputs_paired args.graph.now args.questions.now args.options) (roads ∷ questions ∷ one_if order) old.files opened
  pub answers : Answers G (taken_solved args) args.watching
      (given_of chosen args.options.settings (IsPairOf roads.left questions.left) (IsOrderedFile IsPairFile)
      (HasReadOrdered (IsPairOf roads.left questions.left) IsPairFile IsRunFile (HasReadPair roads roads_after questions questions_after) order order_after))
      (record old { files = opened }) new result

-- `solve` with these arguments, over files that are opened and created so
abbrev pub DoesSolve : {P F I N W E : Type 0} → Ghosts P F I N → SolveArgs → Moment P W E → Moment P W E → ℕ → Type 0
DoesSolve G args old new result =
    IsRefused (λ files refusal. (files ≡ old.files) × CannotChoose args.options (is_some args.watching.accounts) refusal) old new result
    ⊎ ((chosen : AlgebraChoice) × IsChosen args.options (is_some args.watching.accounts) chosen
    × (IsRefused (CannotOpen G.opens (inputs_paired args.graph.now args.questions.now args.options) old.files) old new result
    ⊎ SolvesChosen G chosen args old new result))

-- standard input and an order, if one is named, were opened; then the questions were answered
pub record BundlesChosen {P F I N W E : Type 0} (G : Ghosts P F I N) (chosen : AlgebraChoice) (args : BundleArgs) (old new : Moment P W E) (result : ℕ) : Type 0 where
  pub opened : P
  pub text : Input (OpenedInput F I)
  pub order : Option (Input (OpenedInput F I))
  pub inputs : HasOpened G.opens (inputs_bundled args) (text ∷ one_if order) old.files opened
  pub text_after : Input (OpenedInput F I)
  pub order_after : Option (Input (OpenedInput F I))
  pub answers : Answers G taken_bundled args.watching
      (given_of chosen args.options.settings (IsBundleOf text.left) (IsOrderedFile IsBundleFile)
      (HasReadOrdered (IsBundleOf text.left) IsBundleFile IsRunFile (HasReadBundle text text_after) order order_after))
      (record old { files = opened }) new result

-- `bundle` with these arguments
abbrev pub DoesBundle : {P F I N W E : Type 0} → Ghosts P F I N → BundleArgs → Moment P W E → Moment P W E → ℕ → Type 0
DoesBundle G args old new result =
    IsRefused (λ files refusal. (files ≡ old.files) × CannotChoose args.options (is_some args.watching.accounts) refusal) old new result
    ⊎ ((chosen : AlgebraChoice) × IsChosen args.options (is_some args.watching.accounts) chosen
    × (IsRefused (CannotOpen G.opens (inputs_bundled args) old.files) old new result
    ⊎ BundlesChosen G chosen args old new result))

-- the inputs were opened, and then the requests of standard input were replied to; nothing was read
-- of any input before
pub record ServesOpened {P F I N W E : Type 0} (G : Ghosts P F I N) (chosen : AlgebraChoice) (args : ServeArgs) (old new : Moment P W E) (result : ℕ) : Type 0 where
  pub roads : Input (OpenedInput F I)
  pub roads_after : Input (OpenedInput F I)
  pub requests : Input (OpenedInput F I)
  pub requests_after : Input (OpenedInput F I)
  pub order : Option (Input (OpenedInput F I))
  pub order_after : Option (Input (OpenedInput F I))
  pub inputs : HasOpened G.opens (inputs_paired args.graph.now stdin_name args.options) (roads ∷ requests ∷ one_if order) old.files new.files
  pub outcome : Result (Unit {0}) RunFault
  pub ran : Under chosen (λ V A. RanService A args.options.settings gate_is_open roads roads_after order order_after requests requests_after old.out new.out outcome)
  -- 43 is reported exactly of settings that are out of range, or choose factors for an algebra
  -- without a cost
  pub suited : IsRefusedUnsuited (arc_cost_of chosen) args.options.settings outcome
  pub ends : EndsAs (λ _. 0) old.errors new.errors outcome result

-- `serve` with these arguments. Standard input has the requests, so no file can be there
abbrev pub DoesServe : {P F I N W E : Type 0} → Ghosts P F I N → ServeArgs → Moment P W E → Moment P W E → ℕ → Type 0
DoesServe G args old new result =
    IsRefused (λ files refusal. (files ≡ old.files) × CannotChoose args.options false refusal) old new result
    ⊎ ((chosen : AlgebraChoice) × IsChosen args.options false chosen
    × (IsRefused (CannotOpen G.opens (inputs_paired args.graph.now stdin_name args.options) old.files) old new result
    ⊎ ServesOpened G chosen args old new result))

-- all three inputs were opened; then the answers were judged, and the verdict was written
pub record ChecksOpened {P F I N W E : Type 0} (G : Ghosts P F I N) (args : CheckArgs) (old new : Moment P W E) (result : ℕ) : Type 0 where
  pub roads : Input (OpenedInput F I)
  pub roads_after : Input (OpenedInput F I)
  pub questions : Input (OpenedInput F I)
  pub questions_after : Input (OpenedInput F I)
  pub answers : Input (OpenedInput F I)
  pub answers_after : Input (OpenedInput F I)
  pub inputs : HasOpened G.opens (inputs_judged args) (roads ∷ questions ∷ answers ∷ []) old.files new.files
  pub outcome : Result Verdict RunFault
  pub judged : RanJudge args.limit roads roads_after questions questions_after answers answers_after outcome
  pub ends : EndsCheck outcome old.out new.out old.errors new.errors result

-- `check` with these arguments
abbrev pub DoesCheck : {P F I N W E : Type 0} → Ghosts P F I N → CheckArgs → Moment P W E → Moment P W E → ℕ → Type 0
DoesCheck G args old new result =
    IsRefused (CannotOpen G.opens (inputs_judged args) old.files) old new result
    ⊎ ChecksOpened G args old new result

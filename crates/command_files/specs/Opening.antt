-- What a command tries before it reads: its words, the inputs of their names in order, and the file
-- of accounts.
use Rattle.std.specs.Prelude.{◌≡◌, ◌≢◌, ℕ, ◌⊎◌, List, [], ◌∷◌, Bool, true, false, Option, Some, None, IsSome, IfSome, All, Any, codes, map}
use Rattle.std.specs.Borrow.{Bor}
use Rattle.std.specs.Option.{option_map}
use Rattle.path_algebra.specs.Names.{name_of_text}
use Rattle.path_algebra.specs.Choices.{CannotBe, limit_of, name_of}
use Rattle.path_algebra.specs.declared.choice.AlgebraChoice.{AlgebraChoice}
use Rattle.batch_inputs.specs.declared.faults.File.{File}
use Rattle.batch_inputs.specs.declared.faults.File.TheVariants.{Graph, Questions, Bundle, Answers, Order}
use Rattle.batch_inputs.specs.declared.faults.RunFault.{RunFault}
use Rattle.batch_settings.specs.declared.settings.Settings.{Settings}
use Rattle.text_lines.specs.Streams.{Input}
use Rattle.command_args.specs.declared.parsed.BundleArgs.{BundleArgs}
use Rattle.command_args.specs.declared.parsed.CheckArgs.{CheckArgs}
use Rattle.command_args.specs.declared.parsed.OrderArgs.{OrderArgs}
use Rattle.command_args.specs.declared.parsed.RunOptions.{RunOptions}
use Rattle.command_args.specs.declared.parsed.WatchOptions.{WatchOptions}
use Rattle.fault_reports.specs.Reports.{run_fault}
use Rattle.command_files.specs.Inputs.{NamesStdinOnce, IsNamed, stdin_name}
use Rattle.command_files.specs.declared.opened_input.OpenedInput.{OpenedInput}
use Rattle.command_files.specs.declared.refusal.Refusal.{Refusal}
use Rattle.command_files.specs.declared.refusal.Refusal.TheVariants.{TwoSolvers, Uncounted, Unfactored, StdinTwice, NoFile, FileTaken, Fault}

-- accounts are wanted, and of a solver that counts nothing: the plain one, or the one by factors
abbrev pub IsUncounted : Bool → Settings → Type 0
IsUncounted accounts settings = (accounts ≡ true) × ((settings.plain ≡ true) ⊎ (settings.factors ≡ true))

-- two solvers are asked for
abbrev pub AreTwo : Settings → Type 0
AreTwo settings = (settings.plain ≡ true) × (settings.factors ≡ true)

-- an order of elimination is named, and the graph is not to be factored
abbrev pub IsUnfactored : RunOptions → Type 0
IsUnfactored options = IsSome options.order × (options.settings.factors ≡ false)

-- this is the algebra that the options name, with their limit
pub record IsChosen (options : RunOptions) (accounts : Bool) (chosen : AlgebraChoice) : Type 0 where
  pub one_solver : AreTwo options.settings → ⊥
  pub factored : IsUnfactored options → ⊥
  pub counted : IsUncounted accounts options.settings → ⊥
  pub named : name_of_text options.algebra.now ≡ Some (name_of chosen)
  pub limited : limit_of chosen ≡ options.limit

-- two solvers are asked for; or, if not, an order is named without factors; or, if not, accounts are
-- wanted of a solver that counts nothing; or, if not, there is no algebra of that name with that
-- limit, which is fault 43
abbrev pub CannotChoose : RunOptions → Bool → Refusal → Type 0
CannotChoose options accounts TwoSolvers = AreTwo options.settings
CannotChoose options accounts Unfactored = (AreTwo options.settings → ⊥) × IsUnfactored options
CannotChoose options accounts Uncounted = (AreTwo options.settings → ⊥) × (IsUnfactored options → ⊥) × IsUncounted accounts options.settings
CannotChoose options accounts (Fault f) =
    (AreTwo options.settings → ⊥) × (IsUnfactored options → ⊥) × (IsUncounted accounts options.settings → ⊥) × (f ≡ run_fault 43) × CannotBe (name_of_text options.algebra.now) options.limit
CannotChoose options accounts _ = ⊥

-- trying to open, or to create, the file of a name leads from one state of the files to another
abbrev pub Tries : Type 0 → Type 1
Tries P = P → List ℕ → P → Type 0

-- the input of a name was tried: `-` is standard input, for which no file is opened; of another
-- name the file was tried, once
abbrev pub OpensInput : {P : Type 0} → Tries P → List ℕ → P → P → Type 0
OpensInput opens name old new = ((name ≡ stdin_name) × (new ≡ old)) ⊎ ((name ≢ stdin_name) × opens old name new)

-- names of inputs, each with what a fault calls the input
abbrev pub Named : Type 0
Named = List (List ℕ × File)

-- the name of an order, if one is given
abbrev pub name_of_order : Option (Bor (List ℕ)) → Option (List ℕ)
name_of_order name = option_map (λ n. n.now) name

-- the input of an order of elimination, if one is named
abbrev pub order_input : Option (List ℕ) → Named
order_input None = []
order_input (Some name) = (name, Order) ∷ []

-- what there is, as a list
abbrev pub one_if : {X : Type 0} → Option X → List X
one_if None = []
one_if (Some x) = x ∷ []

-- those of `solve` or `serve`, in order: a graph, questions or requests, and an order
abbrev pub inputs_paired : (graph questions : List ℕ) → RunOptions → Named
inputs_paired graph questions options = (graph, Graph) ∷ (questions, Questions) ∷ order_input (name_of_order options.order)

-- those of `bundle`, of which the first is standard input
abbrev pub inputs_bundled : BundleArgs → Named
inputs_bundled args = (stdin_name, Bundle) ∷ order_input (name_of_order args.options.order)

-- that of `order`
abbrev pub inputs_ordered : OrderArgs → Named
inputs_ordered args = (args.graph.now, Graph) ∷ []

-- those of `check`, in order
abbrev pub inputs_judged : CheckArgs → Named
inputs_judged args = (args.graph.now, Graph) ∷ (args.questions.now, Questions) ∷ (args.answers.now, Answers) ∷ []

-- the inputs of these names were opened, in this order, and no other; none of them has been read
abbrev pub AreOpened : {P F I : Type 0} → Tries P → Named → List (Input (OpenedInput F I)) → P → P → Type 0
AreOpened opens [] [] old new = new ≡ old
AreOpened {P} opens ((name, file) ∷ more) (i ∷ others) old new =
    (next : P) × OpensInput opens name old next × IsNamed name i.state × (i.asked ≡ 0) × AreOpened opens more others next new
AreOpened opens _ _ old new = ⊥

-- standard input serves for one of them
abbrev pub HasOpened : {P F I : Type 0} → Tries P → Named → List (Input (OpenedInput F I)) → P → P → Type 0
HasOpened opens named opened old new = NamesStdinOnce (map (λ n. n.0) named) × AreOpened opens named opened old new

-- a file that can't be opened is fault 1
abbrev pub missing : File → RunFault
missing file = record { number = 1; file = file; line = 0 }

-- of the inputs of these names one can't be opened: those before it were tried, in this order, and
-- then it, and no other
abbrev pub IsMissing : {P : Type 0} → Tries P → Named → P → P → RunFault → Type 0
IsMissing opens [] old new f = ⊥
IsMissing {P} opens ((name, file) ∷ more) old new f =
    ((f ≡ missing file) × (name ≢ stdin_name) × opens old name new)
    ⊎ ((next : P) × OpensInput opens name old next × IsMissing opens more next new f)

-- standard input is named more than once, and nothing was tried; or one of the inputs can't be
-- opened
abbrev pub CannotOpen : {P : Type 0} → Tries P → Named → P → P → Refusal → Type 0
CannotOpen opens named old new StdinTwice = (NamesStdinOnce (map (λ n. n.0) named) → ⊥) × (new ≡ old)
CannotOpen opens named old new (Fault f) = NamesStdinOnce (map (λ n. n.0) named) × IsMissing opens named old new f
CannotOpen opens named old new _ = ⊥

-- asking whether two names are those of one file on a disk is answered in one of two ways
abbrev pub Tells : Type 0 → Type 1
Tells P = P → List ℕ → List ℕ → Bool → Type 0

-- a name is that of one of other files, or of none of them
abbrev pub IsAmong : {P : Type 0} → Tells P → P → List ℕ → List (List ℕ) → Bool → Type 0
IsAmong tells files name others true = Any (λ other. tells files name other true) others
IsAmong tells files name others false = All (λ other. tells files name other false) others

-- the file of this name was tried, if one is wanted, and no other; it is no standard input, and
-- none of these others
abbrev pub CreatesIf : {P : Type 0} → Tries P → Tells P → List (List ℕ) → Option (List ℕ) → P → P → Type 0
CreatesIf creates tells others None old new = new ≡ old
CreatesIf creates tells others (Some name) old new = (name ≢ stdin_name) × IsAmong tells old name others false × creates old name new

-- the name of the file of accounts, if they are wanted
abbrev pub accounts_name : WatchOptions → Option (List ℕ)
accounts_name watching = option_map (λ name. name.now) watching.accounts

-- the file of accounts that is wanted is named as standard input, or is one of these others, and
-- nothing was tried; or it can't be created, which is fault 42
abbrev pub CannotCreate : {P : Type 0} → Tries P → Tells P → List (List ℕ) → Option (List ℕ) → P → P → Refusal → Type 0
CannotCreate creates tells others wanted old new NoFile = (wanted ≡ Some stdin_name) × (new ≡ old)
CannotCreate creates tells others wanted old new FileTaken = IfSome wanted (λ name. IsAmong tells old name others true) × IsSome wanted × (new ≡ old)
CannotCreate creates tells others wanted old new (Fault f) = (f ≡ run_fault 42) × IsSome wanted × CreatesIf creates tells others wanted old new
CannotCreate creates tells others wanted old new _ = ⊥

-- the names of standard output and standard error
abbrev pub written_names : List (List ℕ)
written_names = codes "/dev/fd/1" ∷ codes "/dev/fd/2" ∷ []

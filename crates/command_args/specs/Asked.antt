-- What the words of a command line ask for.
use Rattle.std.specs.Prelude.{◌≡◌, ◌≢◌, ◌⊎◌, ℕ, ◌<◌, ◌^◌, List, [], ◌∷◌, Bool, true, false, Option, Some, None, codes, unwrap_or}
use Rattle.std.specs.Option.{option_map}
use Rattle.std.specs.List.{AllZip}
use Rattle.std.specs.Str.Parse.{IsNumeral, digits_value, without_leading_plus}
use Rattle.clap.specs.Faults.{fault_of}
use Rattle.clap.specs.Kinds.{IsAmong}
use Rattle.clap.specs.Simple.{App, subcommand_of}
use Rattle.clap.specs.Walk.{Row, Text, all_of, first_of, one_of}
use Rattle.clap.specs.declared.error.kind.ErrorKind.{ErrorKind}
use Rattle.clap.specs.declared.error.kind.ErrorKind.TheVariants.{OutOfMemory}
use Rattle.batch_settings.specs.declared.dealing.Dealing.{Dealing}
use Rattle.batch_settings.specs.declared.dealing.Dealing.TheVariants.{Shards, Questions}
use Rattle.batch_settings.specs.declared.settings.Settings.{Settings}
use Rattle.command_args.specs.declared.parsed.RunOptions.{RunOptions}
use Rattle.command_args.specs.declared.parsed.WatchOptions.{WatchOptions}
use Rattle.command_args.specs.declared.parsed.Subcommand.{Subcommand}
use Rattle.command_args.specs.declared.parsed.Subcommand.TheVariants.{Solve, Bundle, Serve, Check, Order, Faults}
use Rattle.command_args.specs.CommandLine.{IsCommandLine}

-- a text spells a number of less than so many bits, in decimal digits
abbrev pub IsNumber : ℕ → Text → Type 0
IsNumber bits text = IsNumeral 10 (without_leading_plus text) × (digits_value 10 (without_leading_plus text) < 2 ^ bits)

-- the number of an option: what its text spells, or none
abbrev pub Reads : ℕ → Option Text → Option ℕ → Type 0
Reads bits None n = n ≡ None
Reads bits (Some text) None = IsNumber bits text → ⊥
Reads bits (Some text) (Some n) = IsNumber bits text × (n ≡ digits_value 10 (without_leading_plus text))

-- the number of an option that has this one if it is left out
abbrev pub ReadsOr : ℕ → Option Text → ℕ → Type 0
ReadsOr usual text n = (given : Option ℕ) × Reads 64 text given × (n ≡ unwrap_or given usual)

-- whether a flag was given
abbrev pub IsSet : Option Text → Bool → Type 0
IsSet text set = (text ≡ Some (codes "true") → set ≡ true) × ((text ≡ None) ⊎ (text ≡ Some (codes "false")) → set ≡ false)

-- the text of an argument
abbrev pub text_of : Text → List Row → Text
text_of name rows = unwrap_or (first_of name rows) []

-- the rule of dealing that a text names: it is `questions`, or else they are dealt by shards
abbrev pub IsDealing : Text → Dealing → Type 0
IsDealing text Questions = text ≡ codes "questions"
IsDealing text Shards = text ≢ codes "questions"

-- the budget of a turn, if none is given: the greatest where whole questions go best first
abbrev pub usual_budget : Bool → Dealing → ℕ
usual_budget true Questions = 65536
usual_budget _ _ = 1024

-- the settings are those of the matches
pub record AreSettings (rows : List Row) (s : Settings) : Type 0 where
  pub workers : ReadsOr 4 (one_of (codes "workers") rows) s.workers
  pub shards : ReadsOr 4 (one_of (codes "shards") rows) s.shards
  pub width : ReadsOr 1 (one_of (codes "width") rows) s.width
  pub budget : ReadsOr (usual_budget s.best_first s.dealing) (one_of (codes "budget") rows) s.budget
  pub turns : ReadsOr 1000000000000 (one_of (codes "turns") rows) s.turns
  pub plain : IsSet (one_of (codes "plain") rows) s.plain
  pub factors : IsSet (one_of (codes "factors") rows) s.factors
  pub best_first : IsSet (one_of (codes "best-first") rows) s.best_first
  pub ahead : Reads 32 (one_of (codes "ahead") rows) s.ahead
  pub dealing : IsDealing (text_of (codes "deal") rows) s.dealing

-- so are the algebra, its limit, the name of an order, and the settings
pub record AreOptions (rows : List Row) (o : RunOptions) : Type 0 where
  pub algebra : o.algebra.now ≡ text_of (codes "algebra") rows
  pub limit : Reads 64 (one_of (codes "limit") rows) o.limit
  pub order : option_map (λ name. name.now) o.order ≡ first_of (codes "order") rows
  pub settings : AreSettings rows o.settings

-- and what is written beside the answers
pub record AreWatched (rows : List Row) (w : WatchOptions) : Type 0 where
  pub accounts : option_map (λ name. name.now) w.accounts ≡ first_of (codes "accounts") rows
  pub progress : IsSet (one_of (codes "progress") rows) w.progress
  pub times : IsSet (one_of (codes "times") rows) w.times

-- a number of a fault
abbrev pub IsFaultNumber : Text → ℕ → Type 0
IsFaultNumber text n = IsNumber 64 text → n ≡ digits_value 10 (without_leading_plus text)

-- a subcommand of this name with these matches is this one, with its files and options
abbrev pub IsSubcommand : Text → List Row → Subcommand → Type 0
IsSubcommand name rows (Solve args) =
    (name ≡ codes "solve") × (args.graph.now ≡ text_of (codes "GRAPH") rows) × (args.questions.now ≡ text_of (codes "QUESTIONS") rows)
    × AreOptions rows args.options × AreWatched rows args.watching
IsSubcommand name rows (Bundle args) = (name ≡ codes "bundle") × AreOptions rows args.options × AreWatched rows args.watching
IsSubcommand name rows (Serve args) = (name ≡ codes "serve") × (args.graph.now ≡ text_of (codes "GRAPH") rows) × AreOptions rows args.options
IsSubcommand name rows (Check args) =
    (name ≡ codes "check") × (args.graph.now ≡ text_of (codes "GRAPH") rows) × (args.questions.now ≡ text_of (codes "QUESTIONS") rows)
    × (args.answers.now ≡ text_of (codes "ANSWERS") rows) × Reads 64 (one_of (codes "limit") rows) args.limit
IsSubcommand name rows (Order args) = (name ≡ codes "order") × (args.graph.now ≡ text_of (codes "GRAPH") rows)
IsSubcommand name rows (Faults numbers) =
    (name ≡ codes "faults") × AllZip IsFaultNumber (unwrap_or (all_of (codes "N") rows) []) numbers.items

-- no subcommand of the program has this name
abbrev pub IsNoName : Text → Type 0
IsNoName name =
    (name ≢ codes "solve") × (name ≢ codes "bundle") × (name ≢ codes "serve") × (name ≢ codes "check") × (name ≢ codes "order")
    × (name ≢ codes "faults")

-- what the subcommand of a parse is, by its name and matches; none if there is none, or none of
-- this name
abbrev pub IsNamed : Option (Text × List Row) → Option Subcommand → Type 0
IsNamed None asked = asked ≡ None
IsNamed (Some found) None = IsNoName found.0
IsNamed (Some found) (Some s) = IsSubcommand found.0 found.1 s

-- the words are `help faults`, after the program's own: they ask for the table of faults
abbrev pub AskForTable : List Text → Type 0
AskForTable words = (own : Text) × (words ≡ own ∷ codes "help" ∷ codes "faults" ∷ [])

-- what clap makes of the words, over the command line of the program, is this subcommand
pub record IsParsedAs (words : List Text) (s : Subcommand) : Type 0 where
  pub app : App
  pub is_ours : IsCommandLine app
  pub faultless : fault_of app words ≡ []
  pub named : IsNamed (subcommand_of app words) (Some s)

-- the words are refused, or ask for help, for one of clap's reasons; or they name no subcommand
pub record AreRefused (words : List Text) (kind : ErrorKind) : Type 0 where
  pub app : App
  pub is_ours : IsCommandLine app
  pub because : IsAmong kind (fault_of app words) ⊎ IsNamed (subcommand_of app words) None

-- all faults are asked for
abbrev pub IsTable : Subcommand → Type 0
IsTable (Faults numbers) = numbers.items ≡ []
IsTable _ = ⊥

-- the words ask for this: for the table of faults, or for what clap makes of them
abbrev pub AskFor : List Text → Subcommand → Type 0
AskFor words s = (AskForTable words × IsTable s) ⊎ ((AskForTable words → ⊥) × IsParsedAs words s)

-- the words ask for no subcommand; or memory was refused
abbrev pub AskForNone : List Text → ErrorKind → Type 0
AskForNone words kind = (kind ≡ OutOfMemory) ⊎ ((AskForTable words → ⊥) × AreRefused words kind)

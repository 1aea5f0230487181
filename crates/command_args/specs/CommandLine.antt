-- What a command line may be: the subcommands, each with its files and its options, in clap's
-- terms.
use Rattle.std.specs.Prelude.{◌≡◌, ℕ, ◌^◌, List, [], ◌∷◌, ◌++◌, Some, true, false, codes}
use Rattle.std.specs.Borrow.{Bor}
use Rattle.clap.specs.Lexer.{usize_max}
use Rattle.clap.specs.Simple.{App, Shape, new_rule, new_shape, with_rule}
use Rattle.clap.specs.Walk.{Rule, Text, texts}
use Rattle.clap.specs.declared.builder.action.ArgAction.TheVariants.{Append, Set, SetTrue}
use Rattle.clap.specs.declared.builder.value_parser.ValueParser.TheVariants as parser

-- a flag, as `--plain`
abbrev pub flag : Text → Rule
flag name = record (new_rule name) { long = Some name; action = Some SetTrue }

-- an option with a value, as `--accounts FILE`
abbrev pub option : Text → Rule
option name = record (new_rule name) { long = Some name; action = Some Set; value_names = 1 }

-- an option whose value is a whole number from one bound to the other
abbrev pub number : Text → ℕ → ℕ → Rule
number name least greatest = record (option name) { parser = Some (parser.Unsigned least greatest) }

-- the same, with the value that it has if it is left out
abbrev pub usual_number : Text → ℕ → ℕ → Text → Rule
usual_number name least greatest usual = record (number name least greatest) { defaults = usual ∷ [] }

-- a file that is named without an option, at its place
abbrev pub file : Text → Rule
file name = record (new_rule name) { required = true; action = Some Set }

-- the texts that an option may have
abbrev pub Names : Type 0
Names = Bor (List (Bor Text))

-- an option whose value is one of these names, with the one that it has if it is left out
abbrev pub usual_name : Text → Names → Text → Rule
usual_name name names usual = record (option name) { parser = Some (parser.Names names); defaults = usual ∷ [] }

abbrev pub algebra : Names → Rule
algebra names = usual_name (codes "algebra") names (codes "shortest")

-- how shards are dealt to workers
abbrev pub deal : Names → Rule
deal names = usual_name (codes "deal") names (codes "shards")

-- the limit of `within`
abbrev pub limit : Rule
limit = number (codes "limit") 0 (2 ^ 63)

-- how questions are answered
abbrev pub settings : (algebras dealings : Names) → List Rule
settings algebras dealings =
    flag (codes "plain")
    ∷ flag (codes "factors")
    ∷ option (codes "order")
    ∷ algebra algebras
    ∷ limit
    ∷ usual_number (codes "width") 1 64 (codes "1")
    ∷ usual_number (codes "workers") 1 64 (codes "4")
    ∷ usual_number (codes "shards") 1 64 (codes "4")
    ∷ deal dealings
    ∷ number (codes "budget") 1 65536
    ∷ usual_number (codes "turns") 0 1000000000000 (codes "1000000000000")
    ∷ flag (codes "best-first")
    ∷ number (codes "ahead") 0 4294967295
    ∷ []

-- what is written beside the answers
abbrev pub watching : List Rule
watching = option (codes "accounts") ∷ flag (codes "progress") ∷ flag (codes "times") ∷ []

-- numbers of faults, as many as are given
abbrev pub fault_numbers : Rule
fault_numbers = record (new_rule (codes "N")) {
  action = Some Append;
  range = Some (record { start_inclusive = 0; end_inclusive = usize_max });
  parser = Some (parser.Unsigned 0 18446744073709551615);
}

-- more rules, after those of the command
abbrev pub with_rules : App → List Rule → App
with_rules a [] = a
with_rules a (r ∷ rs) = with_rules (with_rule a r) rs

abbrev pub subcommand : Text → List Rule → Shape
subcommand name rules = record (new_shape name) { rules = rules }

-- the subcommands
abbrev pub solve : (algebras dealings : Names) → Shape
solve algebras dealings = subcommand (codes "solve") (file (codes "GRAPH") ∷ file (codes "QUESTIONS") ∷ settings algebras dealings ++ watching)

abbrev pub bundle : (algebras dealings : Names) → Shape
bundle algebras dealings = subcommand (codes "bundle") (settings algebras dealings ++ watching)

abbrev pub serve : (algebras dealings : Names) → Shape
serve algebras dealings = subcommand (codes "serve") (file (codes "GRAPH") ∷ settings algebras dealings)

abbrev pub check : Shape
check = subcommand (codes "check") (file (codes "GRAPH") ∷ file (codes "QUESTIONS") ∷ file (codes "ANSWERS") ∷ limit ∷ [])

abbrev pub order : Shape
order = subcommand (codes "order") (file (codes "GRAPH") ∷ [])

abbrev pub faults : Shape
faults = subcommand (codes "faults") (fault_numbers ∷ [])

-- the command line of the program. clap adds `help` and `--help`, and `--version`
abbrev pub diffuse : (algebras dealings : Names) → App
diffuse algebras dealings = record {
  top = record (new_shape (codes "diffuse")) { is_leaf = false; has_version = true; subcommand_required = true };
  subs = solve algebras dealings ∷ bundle algebras dealings ∷ serve algebras dealings ∷ check ∷ order ∷ faults ∷ [];
}

-- the names of the algebras
abbrev pub algebra_names : List Text
algebra_names = codes "shortest" ∷ codes "widest" ∷ codes "reach" ∷ codes "hops" ∷ codes "reliable" ∷ codes "within" ∷ []

-- the names of the rules by which shards are dealt
abbrev pub dealing_names : List Text
dealing_names = codes "shards" ∷ codes "questions" ∷ []

-- this is the command line of the program
abbrev pub IsCommandLine : App → Type 0
IsCommandLine app = (algebras : Names) × (dealings : Names) × (texts algebras.now ≡ algebra_names) × (texts dealings.now ≡ dealing_names) × (app ≡ diffuse algebras dealings)

-- Inputs that were opened: which of them a name leads to.
use Rattle.std.specs.Prelude.{◌≡◌, ◌≢◌, ℕ, ◌≤◌, List, codes, count_by, bytes_eq}
use Rattle.text_lines.specs.Streams.{Input}
use Rattle.command_files.specs.declared.opened_input.OpenedInput.{OpenedInput}
use Rattle.command_files.specs.declared.opened_input.OpenedInput.TheVariants as opened

-- the name of standard input
abbrev pub stdin_name : List ℕ
stdin_name = codes "-"

-- an input of this name is standard input exactly if the name is `-`
abbrev pub IsNamed : {F G : Type 0} → List ℕ → OpenedInput F G → Type 0
IsNamed name (opened.File file) = name ≢ stdin_name
IsNamed name (opened.Stdin stdin) = name ≡ stdin_name

-- a value of an input: of a file by the first function, of standard input by the second
abbrev pub of_input : {F G X : Type 0} → (F → X) → (G → X) → OpenedInput F G → X
of_input of_file of_stdin (opened.File file) = of_file file
of_input of_file of_stdin (opened.Stdin stdin) = of_stdin stdin

-- an input of a name at a moment, as its own reader shows it
abbrev pub opened_input : {F G : Type 0} → (F → Input F) → (G → Input G) → OpenedInput F G → Input (OpenedInput F G)
opened_input of_file of_stdin x = record {
  state = x;
  left = of_input (λ f. (of_file f).left) (λ g. (of_stdin g).left) x;
  failures = of_input (λ f. (of_file f).failures) (λ g. (of_stdin g).failures) x;
  asked = of_input (λ f. (of_file f).asked) (λ g. (of_stdin g).asked) x;
}

-- standard input is at most once among these names
abbrev pub NamesStdinOnce : List (List ℕ) → Type 0
NamesStdinOnce names = count_by (bytes_eq stdin_name) names ≤ 1

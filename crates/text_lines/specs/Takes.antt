-- What it means that code agrees with the rules.
use Rattle.std.specs.Prelude.{◌≡◌, ℕ, List, map, take, Bool, Result, Ok, Err, MatchResult, ⊤}
use Rattle.text_lines.specs.declared.faults.LineFault.{LineFault}
use Rattle.text_lines.specs.declared.faults.LineFault.TheVariants.{Broken, Memory}
use Rattle.text_lines.specs.declared.faults.ReadFault.{ReadFault}
use Rattle.text_lines.specs.declared.slots.Slot.{Slot}
use Rattle.text_lines.specs.Lines.{fields}
use Rattle.text_lines.specs.Rules.{Rules, value_of_lines}
use Rattle.text_lines.specs.Slots.{word_in}
use Rattle.text_lines.specs.Words.{held_word}

-- the slots show the first six fields of the line
abbrev pub ShowsLine : List Slot → List ℕ → Type 0
ShowsLine slots line = map word_in slots ≡ take 6 (map held_word (fields line))

-- a rule is broken as the fault says
abbrev pub Breaks : {A : Type 0} → Result A ℕ → LineFault → Type 0
Breaks rule (Broken broken) = rule ≡ Err broken.number
Breaks rule Memory = ⊤

-- the rule gives what the code gives, unless memory runs out
abbrev pub Agrees : {A : Type 0} → Result A ℕ → Result A LineFault → Type 0
Agrees rule (Ok x) = rule ≡ Ok x
Agrees rule (Err e) = Breaks rule e

-- the same for code that leaves a state
abbrev pub Leaves : {A B : Type 0} → Result A ℕ → Result B LineFault → A → Type 0
Leaves rule (Ok x) state = rule ≡ Ok state
Leaves rule (Err e) state = Breaks rule e

-- by these rules the lines from a line number on give this, after this state
abbrev pub GivesBy : {S V R : Type 0} → Rules S V → S → (R → V) → Bool → ℕ → List (List ℕ) → Result R ReadFault → Type 0
GivesBy rules s view cut at ls r = MatchResult r (λ v. value_of_lines cut rules at s ls ≡ Ok (view v)) (λ f. value_of_lines cut rules at s ls ≡ Err f)

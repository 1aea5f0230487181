-- Kinds of texts, by rules for their lines.
use Rattle.std.specs.Prelude.{◌≡◌, ℕ, ◌+◌, Bool, List, [], ◌∷◌, ◌++◌, length, take, if◌then◌else◌, nat_lt, Result, Ok, Err, true, false, ◌⊎◌, MatchBool}
use Rattle.text_lines.specs.declared.faults.ReadFault.{ReadFault}
use Rattle.text_lines.specs.Lines.{lines, fields}

-- one step and then the next, up to the first fault
infixl 10 ◌>>=◌
abbrev pub ◌>>=◌ : {A B E : Type 0} → Result A E → (A → Result B E) → Result B E
(Ok x) >>= f = f x
(Err e) >>= f = Err e

-- a fault of this number, unless the test holds
abbrev pub unless : Bool → ℕ → Result (Unit {0}) ℕ
unless b fault = if b then Ok tt else Err fault

-- A kind of text: the state before the first line, the state after a line with these fields, and
-- the value at the end. A line or an end that breaks a rule gives the number of the fault.
pub record Rules (State Value : Type 0) : Type 0 where
  pub start : State
  pub line : State → List (List ℕ) → Result State ℕ
  pub end : State → Result Value ℕ

-- the fault of this number in this line
abbrev pub fault_at : ℕ → ℕ → ReadFault
fault_at at number = record { number = number; line = at }

-- the fault of a text that is too long
abbrev pub too_long : ReadFault
too_long = record { number = 2; line = 0 }

-- a rule's fault, with the line that it is in
abbrev pub at_line : {A : Type 0} → ℕ → Result A ℕ → Result A ReadFault
at_line line (Ok x) = Ok x
at_line line (Err number) = Err (fault_at line number)

-- the value of the lines from a line number on, after this state, or their first fault;
-- the end of a text that is cut short has the fault that the text is too long
abbrev pub value_of_lines : {S V : Type 0} → Bool → Rules S V → ℕ → S → List (List ℕ) → Result V ReadFault
value_of_lines cut rules at s [] = if cut then Err too_long else at_line at (rules.end s)
value_of_lines cut rules at s (l ∷ ls) = at_line at (rules.line s (fields l)) >>= λ t. value_of_lines cut rules (at + 1) t ls

-- the value of a text, or its first fault
abbrev pub text_value : {S V : Type 0} → Rules S V → List ℕ → Result V ReadFault
text_value rules bytes = value_of_lines false rules 1 rules.start (lines false bytes)

-- the same for a text of any length: beyond 2 ^ 32 bytes it is the fault of a line that ends within
-- them, else that the text is too long
abbrev pub text_read : {S V : Type 0} → Rules S V → List ℕ → Result V ReadFault
text_read rules bytes = if nat_lt 4294967296 (length bytes) then value_of_lines true rules 1 rules.start (lines true (take 4294967296 bytes)) else text_value rules bytes

-- the state after these lines, if none of them breaks a rule
abbrev pub state_after : {S V : Type 0} → Rules S V → S → List (List ℕ) → Result S ℕ
state_after rules s [] = Ok s
state_after rules s (l ∷ ls) = rules.line s (fields l) >>= λ t. state_after rules t ls

-- a line breaks a rule as the fault says, and no line before it breaks one
pub record FaultAtLine {S V : Type 0} (rules : Rules S V) (at : ℕ) (s : S) (ls : List (List ℕ)) (f : ReadFault) : Type 0 where
  pub before : List (List ℕ)
  pub here : List ℕ
  pub after : List (List ℕ)
  pub reached : S
  pub lines_are : ls ≡ before ++ here ∷ after
  pub taken : state_after rules s before ≡ Ok reached
  pub broken : rules.line reached (fields here) ≡ Err f.number
  pub place : f.line ≡ at + length before

-- the end breaks a rule as the fault says; if the text is cut short, the fault is that it is too
-- long
abbrev pub EndsIn : {S V : Type 0} → Bool → Rules S V → ℕ → S → ReadFault → Type 0
EndsIn true rules at s f = f ≡ too_long
EndsIn false rules at s f = (rules.end s ≡ Err f.number) × (f.line ≡ at)

-- no line breaks a rule, and the end does as the fault says
pub record FaultAtEnd {S V : Type 0} (cut : Bool) (rules : Rules S V) (at : ℕ) (s : S) (ls : List (List ℕ)) (f : ReadFault) : Type 0 where
  pub reached : S
  pub taken : state_after rules s ls ≡ Ok reached
  pub broken : EndsIn cut rules (at + length ls) reached f

-- the first fault of the lines from a line number on: that of the first line that breaks a rule,
-- else that of the end
abbrev pub FaultIn : {S V : Type 0} → Bool → Rules S V → ℕ → S → List (List ℕ) → ReadFault → Type 0
FaultIn cut rules at s ls f = FaultAtLine rules at s ls f ⊎ FaultAtEnd cut rules at s ls f

-- the first fault of a text of any length
abbrev pub FirstFault : {S V : Type 0} → Rules S V → List ℕ → ReadFault → Type 0
FirstFault rules bytes f = MatchBool (nat_lt 4294967296 (length bytes)) (FaultIn true rules 1 rules.start (lines true (take 4294967296 bytes)) f) (FaultIn false rules 1 rules.start (lines false bytes) f)

-- What the lines of a text give.
use Rattle.std.specs.Prelude.{ℕ, List, Bool, Result}
use Rattle.text_lines.specs.declared.faults.ReadFault.{ReadFault}

-- What the lines from a line number on give, after those that were taken: a value or the first
-- fault; and whether these may be the fields of the present line that were taken.
pub record Meaning (T V : Type 0) : Type 1 where
  pub gives : Bool → T → ℕ → List (List ℕ) → Result V ReadFault → Type 0
  pub so_far : T → List (List ℕ) → Type 0

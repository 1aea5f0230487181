-- Lines, fields and numbers of a text.
use Rattle.std.specs.Prelude.{ℕ, Bool, true, false, ◌||◌, ◌==◌, List, [], ◌∷◌, filter, if◌then◌else◌, Option, Some, None}
use Rattle.std.specs.List.{slice_split}
use Rattle.std.specs.Str.{all_ascii_digits}
use Rattle.std.specs.Str.Parse.{digits_value}
use Rattle.std.specs.Str.Lines.{strip_carriage_return}

-- the line after the last LF: none if no byte follows, or if the text is cut short
abbrev pub last_line : Bool → List ℕ → List (List ℕ)
last_line true x = []
last_line false [] = []
last_line false (b ∷ x) = strip_carriage_return (b ∷ x) ∷ []

-- the lines in the parts between LFs; one CR at a line's end is dropped
abbrev pub lines_of_parts : Bool → List (List ℕ) → List (List ℕ)
lines_of_parts cut [] = []
lines_of_parts cut (x ∷ []) = last_line cut x
lines_of_parts cut (x ∷ y ∷ more) = strip_carriage_return x ∷ lines_of_parts cut (y ∷ more)

-- whether a byte ends a line: LF
abbrev pub is_line_end : ℕ → Bool
is_line_end b = b == 10

-- the lines of a text, which may be cut short
unfoldable pub lines : Bool → List ℕ → List (List ℕ)
lines cut bytes = lines_of_parts cut (slice_split is_line_end bytes)

-- whether a byte separates fields: a space or a tab
abbrev pub is_gap : ℕ → Bool
is_gap b = (b == 32) || (b == 9)

-- whether there are any bytes
abbrev pub has_bytes : List ℕ → Bool
has_bytes [] = false
has_bytes (b ∷ f) = true

-- the fields of a line: its parts between gaps that are not empty
unfoldable pub fields : List ℕ → List (List ℕ)
fields line = filter has_bytes (slice_split is_gap line)

-- the number that a field is, if it is one: decimal digits alone, however many
unfoldable pub number : List ℕ → Option ℕ
number field = if all_ascii_digits field then Some (digits_value 10 field) else None

-- What is kept of the present line: a record of fixed size, however long the line is.
use Rattle.std.specs.Prelude.{◌≡◌, ℕ, ◌+◌, ◌*◌, ◌-◌, not, ◌||◌, ◌==◌, List, [], ◌∷◌, ◌++◌, length, take, map, slice_index_or, filter, min, if◌then◌else◌, option_and_then, Bool, Option, Some, None, nat_lt}
use Rattle.std.specs.Char.{is_ascii_digit}
use Rattle.std.specs.List.{slice_split}
use Rattle.text_lines.specs.declared.scanner.Scanner.{Scanner}
use Rattle.text_lines.specs.Lines.{is_gap, has_bytes}
use Rattle.text_lines.specs.Slots.{word_in}
use Rattle.text_lines.specs.Words.{Word, held_word, no_word}

-- the number after one more byte, saturated at 2 ^ 64
abbrev pub number_on : Option ℕ → ℕ → Option ℕ
number_on number b = option_and_then (λ n. if is_ascii_digit b then Some (min (n * 10 + (b - 48)) 18446744073709551616) else None) number

-- the same after more bytes
abbrev pub number_with : Option ℕ → List ℕ → Option ℕ
number_with number [] = number
number_with number (b ∷ bytes) = number_with (number_on number b) bytes

-- what is kept of a field after one more byte
unfoldable pub word_on : Word → ℕ → Word
word_on w b = record { text = if nat_lt (length w.text) 9 then w.text ++ b ∷ [] else w.text; number = number_on w.number b }

-- the same after more bytes
unfoldable pub word_with : Word → List ℕ → Word
word_with w bytes = record { text = w.text ++ take (9 - length w.text) bytes; number = number_with w.number bytes }

-- whether a byte continues a field, whatever comes before and after it: no gap, no LF and no CR
abbrev pub is_plain : ℕ → Bool
is_plain b = not ((is_gap b || (b == 10)) || (b == 13))

-- the words of those of a line's first six fields that have ended, and that of the present field,
-- which may go on
abbrev pub Scan : Type 0
Scan = List Word × Word

-- the scan that the code keeps
abbrev pub scan_of : Scanner → Scan
scan_of s = let words = map word_in s.slots in (take s.filled words, slice_index_or words s.filled no_word)

-- the words of the fields that have ended, once the present one ends
unfoldable pub past : Scan → List Word
past (words, now) = if (length now.text == 0) || not (nat_lt (length words) 6) then words else words ++ now ∷ []

-- the scan after one more byte of the line
unfoldable pub scan_on : Scan → ℕ → Scan
scan_on s b = if is_gap b then (past s, no_word) else (s.0, word_on s.1 b)

-- the scan shows the line: the fields among the parts before the last, which the taker was given,
-- and the last part
pub record Shows (told_of : List (List ℕ) → Type 0) (s : Scan) (line : List ℕ) : Type 0 where
  pub done : List (List ℕ)
  pub run : List ℕ
  pub parts : slice_split is_gap line ≡ done ++ run ∷ []
  pub words : s.0 ≡ take 6 (map held_word (filter has_bytes done))
  pub present : s.1 ≡ held_word run
  pub told : told_of (filter has_bytes done)

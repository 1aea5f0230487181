-- A small kind of text, for the tests: each line is `n NUMBER`, and the value is the list of the
-- numbers.
use Rattle.std.specs.Prelude.{ℕ, ◌==◌, List, [], ◌∷◌, ◌++◌, length, map, if◌then◌else◌, Option, Some, None, nat_lt, Result, Ok, Err, codes, bytes_eq}
use Rattle.text_lines.specs.Rules.{◌>>=◌, unless, Rules}
use Rattle.text_lines.specs.Words.{Word, word_of, word_at}

-- a number below 2 ^ 64
abbrev pub below_top : Option ℕ → Result ℕ ℕ
below_top None = Err 15
below_top (Some n) = if nat_lt n 18446744073709551616 then Ok n else Err 16

-- a line: one more number
unfoldable pub numbers_line : List ℕ → List Word → Result (List ℕ) ℕ
numbers_line ns ws =
    if length ws == 0 then Ok ns
    else (unless (bytes_eq (word_at 0 ws).text (codes "n")) 13 >>= λ _.
    unless (length ws == 2) 14 >>= λ _.
    below_top (word_at 1 ws).number >>= λ n.
    Ok (ns ++ n ∷ []))

-- the kind of text
abbrev pub numbers_rules : Rules (List ℕ) (List ℕ)
numbers_rules = record { start = []; line = λ ns fs. numbers_line ns (map word_of fs); end = λ ns. Ok ns }

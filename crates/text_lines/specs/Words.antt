-- The words of a line: its fields with the numbers that they are.
use Rattle.std.specs.Prelude.{ℕ, List, [], take, min, if◌then◌else◌, nat_lt, Option, None, Some, option_map, get_or, Result, Ok, Err}
use Rattle.text_lines.specs.Lines.{number}

-- a field, and the number that it is, if it is one
pub record Word : Type 0 where
  pub text : List ℕ
  pub number : Option ℕ

-- the word that a field is
abbrev pub word_of : List ℕ → Word
word_of f = record { text = f; number = number f }

-- what is kept of a field: its first nine bytes, and its number, saturated at 2 ^ 64
abbrev pub held_word : List ℕ → Word
held_word f = record { text = take 9 f; number = option_map (λ n. min n 18446744073709551616) (number f) }

-- the word that is given if there is none
abbrev pub no_word : Word
no_word = record { text = []; number = Some 0 }

-- word i of a line, counted from 0
abbrev pub word_at : ℕ → List Word → Word
word_at i ws = get_or ws i no_word

-- a number up to a limit: the first fault if there is no number, the second if it is above the
-- limit
abbrev pub number_up_to : ℕ → ℕ → ℕ → Option ℕ → Result ℕ ℕ
number_up_to none large limit None = Err none
number_up_to none large limit (Some n) = if nat_lt limit n then Err large else Ok n

-- A sum or none, kept as one number: each of 2^63 or more stands for none.
use Rattle.std.specs.Prelude.{ℕ, Option, Some, None, cond, leb}

-- the sum that is kept, or none
abbrev pub label_in : ℕ → Option ℕ
label_in n = cond (leb n 9223372036854775807) (Some n) None

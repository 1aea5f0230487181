-- Numbers and vertices in fields.
use Rattle.std.specs.Prelude.{ℕ, ◌||◌, ◌==◌, if◌then◌else◌, Option, Some, None, nat_lt, Result, Ok, Err}
use Rattle.text_lines.specs.Words.{number_up_to}

-- a number up to a limit: 15 if it is none, 16 above the limit
abbrev pub up_to : ℕ → Option ℕ → Result ℕ ℕ
up_to = number_up_to 15 16

-- a vertex of a graph with n: 15 if it is no number, 17 if it is 0 or above n
abbrev pub vertex_in : ℕ → Option ℕ → Result ℕ ℕ
vertex_in n None = Err 15
vertex_in n (Some v) = if (v == 0) || nat_lt n v then Err 17 else Ok v

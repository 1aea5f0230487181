-- The algebras that are given, each as one record of its operations. A code is the value itself,
-- and 0 for Reach.
use Rattle.std.specs.Prelude.{ℕ, ◌+◌, ◌*◌, ◌/◌, ◌^◌, ◌==◌, min, nat_le, if◌then◌else◌, true, Some, None}
use Rattle.path_algebra.specs.Algebra.{Algebra}
use Rattle.path_algebra.specs.Names.{Shortest, Widest, Reach, Hops, Reliable, Within}

-- Shortest: the sum of the weights, held at 2^63; less is better
abbrev pub shortest : Algebra ℕ
shortest = record {
  name = Shortest;
  is_value = λ v. nat_le v (2 ^ 63);
  origin = 0;
  extend = λ v w. Some (min (v + w) (2 ^ 63));
  no_worse = λ a b. nat_le a b;
  code = λ v. v;
  value_of = λ c. if nat_le c (2 ^ 63) then Some c else None;
}

-- Widest: the least weight, and 2^32 for the walk of no arcs; more is better
abbrev pub widest : Algebra ℕ
widest = record {
  name = Widest;
  is_value = λ v. nat_le v (2 ^ 32);
  origin = 2 ^ 32;
  extend = λ v w. Some (min v w);
  no_worse = λ a b. nat_le b a;
  code = λ v. v;
  value_of = λ c. if nat_le c (2 ^ 32) then Some c else None;
}

-- Reach: one value for every walk
abbrev pub reach : Algebra (Unit {0})
reach = record {
  name = Reach;
  is_value = λ _. true;
  origin = tt;
  extend = λ _ _. Some tt;
  no_worse = λ _ _. true;
  code = λ _. 0;
  value_of = λ c. if c == 0 then Some tt else None;
}

-- Hops: the number of arcs, held at 2^63; less is better
abbrev pub hops : Algebra ℕ
hops = record {
  name = Hops;
  is_value = λ v. nat_le v (2 ^ 63);
  origin = 0;
  extend = λ v w. Some (min (v + 1) (2 ^ 63));
  no_worse = λ a b. nat_le a b;
  code = λ v. v;
  value_of = λ c. if nat_le c (2 ^ 63) then Some c else None;
}

-- Reliable: a chance in parts of 10^12, times weights in parts of 10^6, each time rounded down;
-- more is better. A weight above 10^6 counts as 10^6.
abbrev pub reliable : Algebra ℕ
reliable = record {
  name = Reliable;
  is_value = λ v. nat_le v (10 ^ 12);
  origin = 10 ^ 12;
  extend = λ v w. Some (min v (10 ^ 12) * min w (10 ^ 6) / (10 ^ 6));
  no_worse = λ a b. nat_le b a;
  code = λ v. v;
  value_of = λ c. if nat_le c (10 ^ 12) then Some c else None;
}

-- Within: the sum of the weights up to a limit, and a walk beyond it has no value; less is better
abbrev pub within : ℕ → Algebra ℕ
within limit = record {
  name = Within;
  is_value = λ v. nat_le v limit;
  origin = 0;
  extend = λ v w. if nat_le (v + w) limit then Some (v + w) else None;
  no_worse = λ a b. nat_le a b;
  code = λ v. v;
  value_of = λ c. if nat_le c limit then Some c else None;
}

-- An algebra of a caller's own: each arc takes its weight, and then a stop of two.
use Rattle.std.specs.Prelude.{ℕ, ◌+◌, ◌^◌, min, nat_le, if◌then◌else◌, Some, None}
use Rattle.path_algebra.specs.Algebra.{Algebra, IsLawful}
use Rattle.path_algebra.specs.Laws.{held_laws}
use Rattle.path_algebra.specs.declared.name.AlgebraName.TheVariants.{Own}

-- Stops: the sum of the weights with two more for each arc, held at 2^63; less is better
abbrev pub stops : Algebra ℕ
stops = record {
  name = Own;
  is_value = λ v. nat_le v (2 ^ 63);
  origin = 0;
  extend = λ v w. Some (min (v + (w + 2)) (2 ^ 63));
  no_worse = λ a b. nat_le a b;
  code = λ v. v;
  value_of = λ c. if nat_le c (2 ^ 63) then Some c else None;
}

-- extending makes no value better, keeps the order of values, and stays within them
pub stops_laws : IsLawful stops
stops_laws = held_laws Own (λ w. w + 2)

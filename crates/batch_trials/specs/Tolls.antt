-- An algebra of a caller's own, for tests: each arc costs twice its weight.
use Rattle.std.specs.Prelude.{ℕ, ◌+◌, ◌*◌, ◌^◌, min, nat_le, if◌then◌else◌, Some, None}
use Rattle.path_algebra.specs.Algebra.{Algebra, IsLawful}
use Rattle.path_algebra.specs.Laws.{held_laws}
use Rattle.path_algebra.specs.declared.name.AlgebraName.TheVariants.{Own}

-- Tolls: the sum of twice the weights, held at 2^63; less is better
abbrev pub tolls : Algebra ℕ
tolls = record {
  name = Own;
  is_value = λ v. nat_le v (2 ^ 63);
  origin = 0;
  extend = λ v w. Some (min (v + 2 * w) (2 ^ 63));
  no_worse = λ a b. nat_le a b;
  code = λ v. v;
  value_of = λ c. if nat_le c (2 ^ 63) then Some c else None;
}

pub tolls_laws : IsLawful tolls
tolls_laws = held_laws Own (λ w. 2 * w)

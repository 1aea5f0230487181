-- Widths whose ties are decided by the number of arcs.
use Rattle.std.specs.Prelude.{◌≡◌, ℕ, ◌+◌, ◌<◌, ◌≤◌, ◌^◌, ◌⊎◌, ◌↔◌, min, IsTrue, Some}
use Rattle.path_algebra.specs.Algebra.{Algebra}

-- a value is a width and a number of arcs; an arc narrows the width to its weight at most, and
-- counts one, at least up to the greatest number of vertices. Wider is better and, of equal widths,
-- fewer arcs
pub record IsWidthThenHops (A : Algebra (ℕ × ℕ)) : Type 0 where
  pub origin : A.origin ≡ (2 ^ 32, 0)
  pub extend : (width arcs w : ℕ) → arcs < 2 ^ 25 → A.extend (width, arcs) w ≡ Some (min width w, arcs + 1)
  pub no_worse : (width arcs other more : ℕ) →
      IsTrue (A.no_worse (width, arcs) (other, more)) ↔ ((other < width) ⊎ ((width ≡ other) × (arcs ≤ more)))

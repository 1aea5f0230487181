-- When a graph is too dense to factor.
use Rattle.std.specs.Prelude.{ℕ, ◌+◌, ◌*◌, ◌≤◌}
use Rattle.elimination_order.specs.declared.counts.Counts.{Counts}

-- these counts of an elimination are within the bounds of a graph of n vertices and m arcs
pub record AreWithinBounds (n m : ℕ) (c : Counts) : Type 0 where
  pub links : c.links ≤ 64 * n + 4096
  pub triangles : c.triangles ≤ 8192 * n
  pub work : c.work ≤ 64 * (n + m)

-- by these counts of its elimination, a graph of n vertices and m arcs has too many links or
-- triangles, or took too long
abbrev pub IsTooDense : ℕ → ℕ → Counts → Type 0
IsTooDense n m c = AreWithinBounds n m c → ⊥

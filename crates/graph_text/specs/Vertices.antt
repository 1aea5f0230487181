-- Vertices of a graph, by its number of vertices.
use Rattle.std.specs.Prelude.{ℕ, ◌≤◌}

-- the vertices of a graph with n are 1 to n
abbrev pub IsVertexOf : ℕ → ℕ → Type 0
IsVertexOf n v = (1 ≤ v) × (v ≤ n)

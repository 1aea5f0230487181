-- Pairs and lists of vertices of a graph, by its number of vertices.
use Rattle.std.specs.Prelude.{ℕ, ◌≤◌, List, length, All}
use Rattle.std.specs.Coded.{×_prop, Π_prop, le_prop}
use Rattle.graph_text.specs.Vertices.{IsVertexOf}

-- both are vertices of the graph
abbrev pub IsVertexPairOf : ℕ → ℕ × ℕ → Type 0
IsVertexPairOf n p = IsVertexOf n p.0 × IsVertexOf n p.1

-- 1 to 1,024 vertices, all of the graph
pub record AreSourcesOf (n : ℕ) (sources : List ℕ) : Type 0 where
  pub some : 1 ≤ length sources
  pub few : length sources ≤ 1024
  pub vertices : All (IsVertexOf n) sources

-- each of these facts has at most one proof, as a ghost field requires
pub are_vertices-prop : (n : ℕ) (vs : List ℕ) → IsProp (All (IsVertexOf n) vs)
are_vertices-prop n vs = Π_prop λ k. Π_prop λ d. Π_prop λ _. ×_prop le_prop le_prop

pub are_pairs-prop : (n : ℕ) (ps : List (ℕ × ℕ)) → IsProp (All (IsVertexPairOf n) ps)
are_pairs-prop n ps = Π_prop λ k. Π_prop λ d. Π_prop λ _. ×_prop (×_prop le_prop le_prop) (×_prop le_prop le_prop)

pub AreSourcesOf-prop : (n : ℕ) (sources : List ℕ) → IsProp (AreSourcesOf n sources)
AreSourcesOf-prop n sources a b i = record { some = le_prop a.some b.some i; few = le_prop a.few b.few i; vertices = are_vertices-prop n sources a.vertices b.vertices i }

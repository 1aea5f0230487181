-- What an order of the vertices of a graph is.
use Rattle.std.specs.Prelude.{◌≡◌, ◌≢◌, ℕ, zero, suc, ◌+◌, ◌-◌, ◌<◌, ◌≤◌, List, [], ◌∷◌, length, slice_index}

-- each of the vertices 1 to k stands at its place
abbrev pub StandAtPlaces : ℕ → List ℕ → List ℕ → Type 0
StandAtPlaces k vertices places =
    (v : ℕ) → (1 ≤ v) × (v ≤ k) →
    (slice_index places (v - 1) < length vertices) × (slice_index vertices (slice_index places (v - 1)) ≡ v)

-- of n places, a list has each of 0 to n - 1 once
pub record HasEachPlace (places : List ℕ) : Type 0 where
  pub inside : (i : ℕ) → i < length places → slice_index places i < length places
  pub apart : (i j : ℕ) → i < j → j < length places → slice_index places i ≢ slice_index places j

-- how many places have a vertex, and not 0
abbrev pub filled : List ℕ → ℕ
filled [] = 0
filled (zero ∷ vertices) = filled vertices
filled (suc v ∷ vertices) = filled vertices + 1

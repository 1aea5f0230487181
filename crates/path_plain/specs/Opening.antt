-- The labels at the start of a search.
use Rattle.std.specs.Prelude.{◌≡◌, ℕ, ◌≤◌, List, length, Contains, Option, Some}
use Rattle.path_algebra.specs.Walks.{label_of}

-- one label for each of n vertices: the origin at each source, and none elsewhere
pub record AreOpening {V : Type 0} (origin : V) (n : ℕ) (sources : List ℕ) (labels : List (Option V)) : Type 0 where
  pub count : length labels ≡ n
  pub at_sources : (s : ℕ) → Contains sources s → label_of labels s ≡ Some origin
  pub only_there : (v : ℕ) (y : V) → 1 ≤ v → v ≤ n → label_of labels v ≡ Some y → Contains sources v × (origin ≡ y)

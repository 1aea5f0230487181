-- What the heap holds: open vertices, with the values that they were offered.
use Rattle.std.specs.Prelude.{◌≡◌, ℕ, ◌<◌, List, length, Bool, false, IsTrue, Contains, Option, Some, None, slice_index_or}

-- each entry is no better than the label of its place, and each open label has an entry of exactly
-- its value
pub record IsQueue {K V : Type 0} (value : K → V) (place : K → ℕ) (no_worse : V → V → Bool)
    (labels : List (Option V)) (settled : List Bool) (items : List K) : Type 0 where
  pub entries : (e : K) → Contains items e →
      (place e < length labels) × ((y : V) × (slice_index_or labels (place e) None ≡ Some y) × IsTrue (no_worse y (value e)))
  pub covers : (k : ℕ) (y : V) → k < length labels → slice_index_or settled k false ≡ false →
      slice_index_or labels k None ≡ Some y →
      (e : K) × Contains items e × (value e ≡ y) × (place e ≡ k)

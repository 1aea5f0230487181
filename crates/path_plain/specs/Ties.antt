-- Which of several best open vertices comes first.
use Rattle.std.specs.Prelude.{◌≡◌, ℕ, ◌<◌, ◌≤◌, List, length, Bool, false, Option, Some, None, slice_index_or}

-- the least of the open places whose label is x
abbrev pub IsFirstOfEquals : {V : Type 0} → List (Option V) → List Bool → ℕ → V → Type 0
IsFirstOfEquals labels settled i x =
    (j : ℕ) → j < length labels → slice_index_or settled j false ≡ false → slice_index_or labels j None ≡ Some x → i ≤ j

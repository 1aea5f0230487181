-- What it means for an open vertex to be best, in a search.
use Rattle.std.specs.Prelude.{◌≡◌, ℕ, ◌<◌, List, Bool, false, cond, IsTrue, Option, Some, None, slice_index_or}

-- no worse than any open label below k
abbrev pub IsLeastOpen : {V : Type 0} → (V → V → Bool) → List (Option V) → List Bool → ℕ → V → Type 0
IsLeastOpen {V = V} no_worse labels settled k x =
    (j : ℕ) → j < k → (y : V) → slice_index_or settled j false ≡ false →
    slice_index_or labels j None ≡ Some y → IsTrue (no_worse x y)

-- an open place below k, with its label, which is the best of those below k
pub record IsBestOpen {V : Type 0} (no_worse : V → V → Bool) (labels : List (Option V)) (settled : List Bool)
    (k : ℕ) (i : ℕ) (x : V) : Type 0 where
  pub below : i < k
  pub is_open : slice_index_or settled i false ≡ false
  pub label : slice_index_or labels i None ≡ Some x
  pub least : IsLeastOpen no_worse labels settled k x

-- the best open place below k, or none if no place below k is open and has a label
abbrev pub AnswersBestOpen : {V : Type 0} → (V → V → Bool) → List (Option V) → List Bool → ℕ →
    Option (ℕ × V) → Type 0
AnswersBestOpen no_worse labels settled k None =
    (j : ℕ) → j < k → slice_index_or settled j false ≡ false → slice_index_or labels j None ≡ None
AnswersBestOpen no_worse labels settled k (Some p) = IsBestOpen no_worse labels settled k p.0 p.1

-- the better of two, the first if they tie
abbrev pub better_of : {V : Type 0} → (V → V → Bool) → Option (ℕ × V) → ℕ → V → Option (ℕ × V)
better_of no_worse None i x = Some (i, x)
better_of no_worse (Some p) i x = Some (cond (no_worse p.1 x) p (i, x))

-- The note of the vertices that a search has labelled, by which it can be put back.
use Rattle.std.specs.Prelude.{◌≡◌, ℕ, ◌≤◌, ◌⊎◌, ⊤, List, [], ◌∷◌, ◌++◌, Contains, Bool, true, false, Option, Some, None}
use Rattle.path_algebra.specs.Walks.{label_of, is_marked}

-- v has no label and is not settled
pub record IsUntouched {V : Type 0} (labels : List (Option V)) (settled : List Bool) (v : ℕ) : Type 0 where
  pub label : label_of labels v ≡ None
  pub mark : is_marked settled v ≡ false

-- each of the vertices 1 to n is on the list or untouched, and the list has no others
pub record AreNoted {V : Type 0} (n : ℕ) (list : List ℕ) (labels : List (Option V)) (settled : List Bool) : Type 0 where
  pub inside : (v : ℕ) → Contains list v → (1 ≤ v) × (v ≤ n)
  pub others : (v : ℕ) → 1 ≤ v → v ≤ n → Contains list v ⊎ IsUntouched labels settled v

-- with a list each touched vertex is on it; without one nothing is noted
abbrev pub IsNoted : {V : Type 0} → ℕ → Option (List ℕ) → List (Option V) → List Bool → Type 0
IsNoted n None labels settled = ⊤
IsNoted n (Some list) labels settled = AreNoted n list labels settled

-- the list with v at its end, if there is a list and v is new to it
abbrev pub noted_if : Bool → Option (List ℕ) → ℕ → Option (List ℕ)
noted_if true (Some list) v = Some (list ++ v ∷ [])
noted_if true None v = None
noted_if false touched v = touched

-- the vertices on the list; none if there is no list
abbrev pub noted_list : Option (List ℕ) → List ℕ
noted_list None = []
noted_list (Some list) = list

-- A table of codes: a row for each source, with a code for each target.
use Rattle.std.specs.Prelude.{◌≡◌, ◌*◌, ℕ, List, [], ◌∷◌, All, length}
use Rattle.std.specs.List.{AllZip, concat}
use Rattle.road_graph.specs.GraphData.{GraphData, HasVertex}
use Rattle.path_algebra.specs.Algebra.{Algebra}
use Rattle.path_algebra.specs.Walks.{IsBestCode, IsUnreached}

-- the code of the best value from a source to a target; 2^64 - 1 means that no walk to it has a
-- value
pub record IsTableCode {V : Type 0} (A : Algebra V) (g : GraphData) (source target code : ℕ) : Type 0 where
  pub best : (code ≡ 18446744073709551615 → ⊥) → IsBestCode A g (source ∷ []) target code
  pub none : code ≡ 18446744073709551615 → IsUnreached A g (source ∷ []) target

-- a row: for each target, in order, its code from one source
abbrev pub AreRowCodes : {V : Type 0} → Algebra V → GraphData → List ℕ → ℕ → List ℕ → Type 0
AreRowCodes A g targets source row = AllZip (IsTableCode A g source) targets row

-- a table: rows, one after the other, for each source, in order, its row
abbrev pub AreTableCodes : {V : Type 0} → Algebra V → GraphData → List ℕ → List ℕ → List ℕ → Type 0
AreTableCodes A g sources targets codes =
    (rows : List (List ℕ)) × (codes ≡ concat rows) × AllZip (AreRowCodes A g targets) sources rows

-- each source and each target is a vertex
abbrev pub AreEndsIn : GraphData → List ℕ → List ℕ → Type 0
AreEndsIn g sources targets = All (HasVertex g) sources × All (HasVertex g) targets

-- a list has just one place for each pair of a source and a target
abbrev pub HasPlaces : List ℕ → List ℕ → List ℕ → Type 0
HasPlaces sources targets codes = length codes ≡ length sources * length targets

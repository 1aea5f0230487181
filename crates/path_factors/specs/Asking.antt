-- Best values of single vertices from one source, found as they are asked for.
use Rattle.std.specs.Prelude.{◌≡◌, ℕ, ◌+◌, ◌<◌, ◌≤◌, ◌⊎◌, List, [], ◌∷◌, ◌++◌, length, All, Contains, Bool, true, false, Option, Some, None, slice_index_or}
use Rattle.road_graph.specs.GraphData.{GraphData, HasVertex}
use Rattle.path_algebra.specs.Algebra.{Algebra}
use Rattle.path_algebra.specs.Composition.{Composition}
use Rattle.path_factors.specs.Factors.{FactorData, row_of, place_of}
use Rattle.path_factors.specs.State.{FactorState}
use Rattle.path_factors.specs.Substituting.{at, best_along, IsForward}
use Rattle.path_factors.specs.Heads.{IsHead}
use Rattle.path_factors.specs.Tree.{IsTreeParent, IsAncestor}

-- whether a place is marked
abbrev pub is_on : List Bool → ℕ → Bool
is_on marks i = slice_index_or marks i false

-- the source, as a list
abbrev pub sources_of : Option ℕ → List ℕ
sources_of None = []
sources_of (Some s) = s ∷ []

-- labels after back substitution of others: each is the best along the row of its place
pub record IsBackRun {V W : Type 0} (A : Algebra V) (C : Composition V W) (n : ℕ) (F : FactorData W)
    (before all : List (Option V)) : Type 0 where
  pub count : length all ≡ n
  pub best : (i : ℕ) → i < n → at all i ≡ best_along A C all (at before i) (row_of F.entering i)

-- a known place has its label after back substitution, any other the one before it
pub record Agree {V : Type 0} (n : ℕ) (before all labels : List (Option V)) (known : List Bool) : Type 0 where
  pub done : (i : ℕ) → i < n → is_on known i ≡ true → at labels i ≡ at all i
  pub left : (i : ℕ) → i < n → is_on known i ≡ false → at labels i ≡ at before i

-- if a place is known, so is each place above it
abbrev pub IsKnownUpward : List (List ℕ) → List Bool → Type 0
IsKnownUpward heads known = (x y : ℕ) → is_on known x ≡ true → IsHead heads x y → is_on known y ≡ true

-- the places from t up to v, without v: each is the parent of the one before, and none is known
pub record AreUnknownUp (heads : List (List ℕ)) (n : ℕ) (known : List Bool) (t : ℕ) (list : List ℕ) (v : ℕ) : Type 0 where
  pub first : slice_index_or list 0 v ≡ t
  pub inside : (q : ℕ) → q < length list → slice_index_or list q v < n
  pub fresh : (q : ℕ) → q < length list → is_on known (slice_index_or list q v) ≡ false
  pub parents : (q : ℕ) → q < length list → IsTreeParent heads n (slice_index_or list q v) (slice_index_or list (q + 1) v)

-- the same up to the first that is known, or through the last
abbrev pub AreAllUnknownUp : List (List ℕ) → ℕ → List Bool → ℕ → List ℕ → Type 0
AreAllUnknownUp heads n known t list =
    (v : ℕ) × AreUnknownUp heads n known t list v × (v ≤ n) × ((v ≡ n) ⊎ (is_on known v ≡ true))

-- the list and more places
pub record IsExtended (n : ℕ) (before after : List ℕ) : Type 0 where
  pub more : List ℕ
  pub is : after ≡ before ++ more
  pub inside : All (λ i. i < n) more

-- the places of the list are known, and no other that was not
pub record AreFound {V : Type 0} (heads : List (List ℕ)) (n : ℕ) (before all : List (Option V)) (old : List Bool) (list : List ℕ)
    (labels : List (Option V)) (known : List Bool) : Type 0 where
  pub labels_count : length labels ≡ n
  pub known_count : length known ≡ n
  pub agree : Agree n before all labels known
  pub upward : IsKnownUpward heads known
  pub listed : (j : ℕ) → is_on known j ≡ true → (is_on old j ≡ true) ⊎ Contains list j
  pub kept : (j : ℕ) → is_on old j ≡ true → is_on known j ≡ true
  pub found : (j : ℕ) → Contains list j → is_on known j ≡ true

-- only the ancestors of place s are labelled
abbrev pub AreOnlyUp : {V : Type 0} → List (List ℕ) → ℕ → ℕ → List (Option V) → Type 0
AreOnlyUp heads n s labels = (j : ℕ) → (at labels j ≡ None) ⊎ IsAncestor heads n s j

-- place j is that of a source, or an ancestor of it
abbrev pub IsAboveSource : {W : Type 0} → ℕ → FactorData W → List (List ℕ) → List ℕ → ℕ → Type 0
IsAboveSource n F heads sources j = (s : ℕ) × Contains sources s × IsAncestor heads n (place_of F s) j

-- an asker as plain data: the factors that it is for, and the source, if it has begun
pub record AskerState (T W : Type 0) : Type 0 where
  pub factors : FactorState T W
  pub sources : List ℕ

-- what holds of an asker
pub record IsAsking {V W : Type 0} (A : Algebra V) (C : Composition V W) (g : GraphData) (F : FactorData W) (heads : List (List ℕ))
    (sources : List ℕ) (labels : List (Option V)) (known : List Bool) (asked : List ℕ) : Type 0 where
  pub inside : All (HasVertex g) sources
  pub labels_count : length labels ≡ g.vertices
  pub known_count : length known ≡ g.vertices
  pub asked_inside : All (λ i. i < g.vertices) asked
  pub listed : (j : ℕ) → is_on known j ≡ true → Contains asked j
  pub upward : IsKnownUpward heads known
  pub labelled : (j : ℕ) → (at labels j ≡ None) ⊎ ((is_on known j ≡ true) ⊎ IsAboveSource g.vertices F heads sources j)
  pub before : List (Option V)
  pub forward : IsForward A C g F sources before
  pub all : List (Option V)
  pub run : IsBackRun A C g.vertices F before all
  pub agree : Agree g.vertices before all labels known

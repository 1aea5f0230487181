-- The tables of a shard: a value for each of its vertices and arcs, by place.
use Rattle.std.specs.Simd.Lanes.{zip2}
use Rattle.std.specs.Prelude.{◌≢◌, ℕ, zero, suc, ◌+◌, ◌<◌, ◌≤◌, ◌^◌, Bool, cond, eqb, Option, Some, None, List, [], ◌∷◌, length, map, set, get_or, replicate, ⊤}
use Rattle.std.specs.List.{range_with_len}
use Rattle.shard_store.specs.declared.local_vertices.Places.{Places}
use Rattle.shard_store.specs.declared.local_vertices.Places.TheVariants.{Run, Listed}
use Rattle.shard_store.specs.declared.tables.VertexRow.{VertexRow}
use Rattle.shard_store.specs.declared.tables.ArcMarks.{ArcMarks}

-- the list of n entries in which the j-th value is at the j-th key, and `none` is elsewhere
unfoldable pub scatter : {X : Type 0} → List ℕ → List X → X → ℕ → List X
scatter [] values none n = replicate n none
scatter (k ∷ keys) [] none n = replicate n none
scatter (k ∷ keys) (x ∷ values) none n = set (scatter keys values none n) k x

-- no two keys are the same
abbrev pub IsApart : List ℕ → Type 0
IsApart keys = (i j : ℕ) → i < j → j < length keys → get_or keys i 0 ≢ get_or keys j 0

-- the environment and the vertices of a shard: a run of `count` from the first on, or a list
abbrev pub listed : Places → List ℕ
listed (Run first count) = 0 ∷ range_with_len first count
listed (Listed list) = list.items

-- the environment is not in the run, and each number of the run fits its type
abbrev pub ArePlacesInRange : Places → Type 0
ArePlacesInRange (Run first count) = (1 ≤ first) × (first + count ≤ 2 ^ 32)
ArePlacesInRange (Listed list) = ⊤

-- of the numbers k, k + 1, .., k + n - 1, those at the place s
unfoldable pub placed : (ℕ → ℕ) → ℕ → ℕ → ℕ → List ℕ
placed place s k zero = []
placed place s k (suc n) = cond (eqb (place k) s) (k ∷ placed place s (suc k) n) (placed place s (suc k) n)

-- what is known of the vertices, by place
pub record VertexLists (V : Type 0) : Type 0 where
  pub labels : List (Option V)
  pub engagers : List (Option ℕ)
  pub deficits : List ℕ
  pub offsets : List ℕ

-- what is known of the arcs, by place
pub record ArcLists (V : Type 0) : Type 0 where
  pub busy : List Bool
  pub told : List (Option V)

-- the label in a row, if there is one
abbrev pub label_in : {V : Type 0} → VertexRow V → Option V
label_in r = cond r.labelled (Some r.value) None

-- the engager in a row, if there is one
abbrev pub engager_in : {V : Type 0} → VertexRow V → Option ℕ
engager_in r = cond r.engaged (Some r.engager) None

-- the label that an arc of these marks was last offered, if any
abbrev pub told_in : {V : Type 0} → ArcMarks → V → Option V
told_in m label = cond m.told (Some label) None

-- rows of vertices, as a list for each thing that is known of them
abbrev pub vertex_lists : {V : Type 0} → List (VertexRow V) → VertexLists V
vertex_lists rows = record { labels = map label_in rows; engagers = map engager_in rows; deficits = map (λ r. r.deficit) rows; offsets = map (λ r. r.offset) rows }

-- marks and labels of arcs, likewise
abbrev pub arc_lists : {V : Type 0} → List ArcMarks → List V → ArcLists V
arc_lists marks labels = record { busy = map (λ m. m.busy) marks; told = zip2 told_in marks labels }

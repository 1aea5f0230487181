-- The state of a breadth-first search over tight arcs, and its steps.
use Rattle.std.specs.Prelude.{◌≡◌, ℕ, ◌+◌, ◌≤◌, List, [], ◌∷◌, length, All, Bool, false, cond, Option}
use Rattle.road_graph.specs.GraphData.{GraphData, IsGraph, HasVertex}
use Rattle.path_algebra.specs.Algebra.{Algebra}
use Rattle.path_algebra.specs.Walks.{label_of, is_tight_between}
use Rattle.route_tree.specs.Levels.{Visiting, unreached}
use Rattle.route_tree.specs.Regions.{in_region, is_tight_into}

-- a graph with a label for each vertex, which decide with an algebra which arcs are tight
pub record LabelledGraph (A V : Type 0) : Type 0 where
  pub algebra : A
  pub roads : GraphData
  pub labels : List (Option V)

-- what is searched, hops and parents so far, the vertices that were found last, and the hops of
-- those that are visited
pub record SearchState (A V : Type 0) : Type 0 where
  pub over : LabelledGraph A V
  pub region : Option (List Bool)
  pub hops : List (Option ℕ)
  pub parents : List (Option ℕ)
  pub next : List ℕ
  pub level : ℕ

-- a label, hops and a parent for each vertex of a graph; each level found at least one vertex
pub record IsSearch {V : Type 0} (g : GraphData) (labels : List (Option V)) (hops parents : List (Option ℕ)) (next : List ℕ) (level : ℕ) : Type 0 where
  pub roads : IsGraph g
  pub labels_count : length labels ≡ g.vertices
  pub hops_count : length hops ≡ g.vertices
  pub parents_count : length parents ≡ g.vertices
  pub inside : All (HasVertex g) next
  pub few_levels : unreached hops + length next + level ≤ g.vertices

-- the same level of the same search
pub record IsSameSearch {A V : Type 0} (old new : SearchState A V) : Type 0 where
  pub over : new.over ≡ old.over
  pub region : new.region ≡ old.region
  pub level : new.level ≡ old.level

-- whether the search goes along an arc: it is tight, and enters the region
abbrev pub passes : {A V : Type 0} → Algebra V → SearchState A V → ℕ → Bool
passes meaning s = is_tight_into meaning s.over.roads s.over.labels s.region

-- whether the search goes along a road to this head, from a vertex with this label
abbrev pub passes_road : {A V : Type 0} → Algebra V → SearchState A V → Option V → ℕ → ℕ → Bool
passes_road meaning s near head weight = cond (in_region s.region head) (is_tight_between meaning near weight (label_of s.over.labels head)) false

-- v is visited, whatever waits after it
abbrev pub VisitsVertex : {A V : Type 0} → Algebra V → ℕ → SearchState A V → SearchState A V → Type 0
VisitsVertex meaning v old new =
    (sources pending : List ℕ) → Visiting old.over.roads (passes meaning old) sources old.level old.hops old.parents (v ∷ pending) [] old.next →
    Visiting old.over.roads (passes meaning old) sources old.level new.hops new.parents pending [] new.next

-- each vertex of a list is visited
abbrev pub VisitsAll : {A V : Type 0} → Algebra V → List ℕ → SearchState A V → SearchState A V → Type 0
VisitsAll meaning list old new =
    (sources : List ℕ) → Visiting old.over.roads (passes meaning old) sources old.level old.hops old.parents list [] old.next →
    Visiting old.over.roads (passes meaning old) sources old.level new.hops new.parents [] [] new.next

-- the vertices that were found last are visited, and those that are found then are the next level
abbrev pub VisitsLevel : {A V : Type 0} → Algebra V → SearchState A V → SearchState A V → Type 0
VisitsLevel meaning old new =
    (sources : List ℕ) → Visiting old.over.roads (passes meaning old) sources old.level old.hops old.parents old.next [] [] →
    Visiting old.over.roads (passes meaning old) sources new.level new.hops new.parents new.next [] []

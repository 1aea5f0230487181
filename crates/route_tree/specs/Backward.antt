-- The state of a search from a target back over tight arcs, and its steps.
use Rattle.std.specs.Prelude.{◌≡◌, ℕ, ◌+◌, List, [], ◌∷◌, length, All, Bool, false, cond, Option}
use Rattle.road_graph.specs.GraphData.{GraphData, IsGraph, HasVertex}
use Rattle.path_algebra.specs.Algebra.{Algebra}
use Rattle.path_algebra.specs.Walks.{label_of, is_marked, is_tight, is_tight_between}
use Rattle.route_tree.specs.Blank.{AreFound}
use Rattle.route_tree.specs.Regions.{VisitingBack}
use Rattle.route_tree.specs.BreadthFirst.{LabelledGraph}

-- what is searched, a mark for each vertex that was found, and the vertices that were found last
pub record BackwardState (A V : Type 0) : Type 0 where
  pub over : LabelledGraph A V
  pub marks : List Bool
  pub next : List ℕ

-- a label and a mark for each vertex of a graph, and a list of those that have one
pub record IsBackward {V : Type 0} (g : GraphData) (labels : List (Option V)) (marks : List Bool) (found next : List ℕ) : Type 0 where
  pub roads : IsGraph g
  pub labels_count : length labels ≡ g.vertices
  pub marks_count : length marks ≡ g.vertices
  pub noted : AreFound g marks found
  pub inside : All (HasVertex g) next

-- whether the search goes back along an arc: it is tight
abbrev pub passes_back : {A V : Type 0} → Algebra V → BackwardState A V → ℕ → Bool
passes_back meaning s = is_tight meaning s.over.roads s.over.labels

-- whether the tail of an arc of this weight, whose head has this label, is found
abbrev pub finds_tail : {A V : Type 0} → Algebra V → BackwardState A V → ℕ → ℕ → Option V → Bool
finds_tail meaning s tail weight far = cond (is_marked s.marks tail) false (is_tight_between meaning (label_of s.over.labels tail) weight far)

-- v is visited, whatever waits after it
abbrev pub VisitsBack : {A V : Type 0} → Algebra V → ℕ → BackwardState A V → BackwardState A V → Type 0
VisitsBack meaning v old new =
    (target k : ℕ) (pending : List ℕ) → VisitingBack old.over.roads (passes_back meaning old) target k old.marks (v ∷ pending) [] old.next →
    VisitingBack old.over.roads (passes_back meaning old) target k new.marks pending [] new.next

-- each vertex of a list is visited
abbrev pub VisitsAllBack : {A V : Type 0} → Algebra V → List ℕ → BackwardState A V → BackwardState A V → Type 0
VisitsAllBack meaning list old new =
    (target k : ℕ) → VisitingBack old.over.roads (passes_back meaning old) target k old.marks list [] old.next →
    VisitingBack old.over.roads (passes_back meaning old) target k new.marks [] [] new.next

-- the vertices that were found last are visited, and those that this finds are one arc further from
-- the target
abbrev pub VisitsLevelBack : {A V : Type 0} → Algebra V → BackwardState A V → BackwardState A V → Type 0
VisitsLevelBack meaning old new =
    (target k : ℕ) → VisitingBack old.over.roads (passes_back meaning old) target k old.marks old.next [] [] →
    VisitingBack old.over.roads (passes_back meaning old) target (k + 1) new.marks new.next [] []

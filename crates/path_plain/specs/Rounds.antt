-- What holds of a search between two of its steps.
use Rattle.std.specs.Prelude.{◌≡◌, ℕ, ◌-◌, ◌⊎◌, List, [], length, All, Contains, Bool, true, false, IsTrue, Option, Some, slice_index_or}
use Rattle.road_graph.specs.GraphData.{GraphData, HasArc, HasVertex, arc_of}
use Rattle.path_algebra.specs.Algebra.{Algebra}
use Rattle.path_algebra.specs.Walks.{label_of, AreWalkValues, IsNotImproving}
use Rattle.path_plain.specs.Searching.{SearchState, Advances}
use Rattle.path_plain.specs.UpTo.{AreBestAsFar}

-- a vertex that is marked as settled
abbrev pub IsSettled : List Bool → ℕ → Type 0
IsSettled settled v = slice_index_or settled (v - 1) false ≡ true

-- x is a level: no settled label is worse, and no open one is better; pending arcs wait for their
-- turn
pub record Search {V : Type 0} (A : Algebra V) (g : GraphData) (sources : List ℕ) (labels : List (Option V)) (settled : List Bool) (x : V) (pending : List ℕ) : Type 0 where
  pub labels_count : length labels ≡ g.vertices
  pub settled_count : length settled ≡ g.vertices
  pub values : AreWalkValues A g sources labels
  pub at_sources : (s : ℕ) → Contains sources s → (y : V) × (label_of labels s ≡ Some y) × IsTrue (A.no_worse y A.origin)
  pub labelled : (v : ℕ) → HasVertex g v → IsSettled settled v → (y : V) × (label_of labels v ≡ Some y) × IsTrue (A.no_worse y x)
  pub above : (v : ℕ) (y : V) → HasVertex g v → slice_index_or settled (v - 1) false ≡ false → label_of labels v ≡ Some y → IsTrue (A.no_worse x y)
  pub closed : (a : ℕ) → HasArc g a → IsSettled settled (arc_of g a).tail → Contains pending a ⊎ IsNotImproving A g labels a
  pub current : (a : ℕ) → Contains pending a → HasArc g a × IsSettled settled (arc_of g a).tail × (label_of labels (arc_of g a).tail ≡ Some x)

-- a search from the sources between two rounds
pub record Between {V : Type 0} (A : Algebra V) (g : GraphData) (sources : List ℕ) (labels : List (Option V)) (settled : List Bool) : Type 0 where
  pub level : V
  pub known : Search A g sources labels settled level []

-- between two rounds, and the labels are best as far as the target
pub record IsSearchedAsFar {V : Type 0} (A : Algebra V) (g : GraphData) (sources : List ℕ) (target : Option ℕ) (labels : List (Option V)) (settled : List Bool) : Type 0 where
  pub between : Between A g sources labels settled
  pub best : AreBestAsFar A g sources target labels

-- from whatever sources it began, a search goes on as far as the target
abbrev pub Runs : {A V : Type 0} → Algebra V → Option ℕ → SearchState A V → SearchState A V → Type 0
Runs meaning target old new =
    (sources : List ℕ) → All (HasVertex old.roads) sources → Between meaning old.roads sources old.labels old.settled →
    IsSearchedAsFar meaning old.roads sources target new.labels new.settled

-- from whatever sources it began, a search stays one between two rounds
abbrev pub StaysBetween : {A V : Type 0} → Algebra V → SearchState A V → SearchState A V → Type 0
StaysBetween meaning old new =
    (sources : List ℕ) → All (HasVertex old.roads) sources → Between meaning old.roads sources old.labels old.settled →
    Between meaning old.roads sources new.labels new.settled

-- one entry is taken, or the search has come as far as the target
abbrev pub Steps : {A V : Type 0} → (V → V → Bool) → Algebra V → Option ℕ → Bool → SearchState A V → SearchState A V → Type 0
Steps no_worse meaning target true old new = Advances no_worse meaning true old new
Steps no_worse meaning target false old new = Runs meaning target old new

-- if the target is decided the search has gone on as far as it; else it stays a search that can go
-- on
abbrev pub RunsSome : {A V : Type 0} → Algebra V → ℕ → Bool → SearchState A V → SearchState A V → Type 0
RunsSome meaning target true old new = Runs meaning (Some target) old new
RunsSome meaning target false old new = StaysBetween meaning old new

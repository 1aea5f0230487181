-- A search with hops and parents, and how it proceeds.
use Rattle.std.specs.Prelude.{◌≡◌, ℕ, ◌+◌, ◌-◌, ◌<◌, ◌≤◌, Contains, List, [], ◌∷◌, ◌++◌, length, Bool, true, false, Option, Some, None, replicate, slice_set, slice_index_or}
use Rattle.road_graph.specs.GraphData.{GraphData, HasVertex, IsGraph, ListsArcsFrom}
use Rattle.path_algebra.specs.Algebra.{Algebra}
use Rattle.path_algebra.specs.Open.{IsBestOpen, AnswersBestOpen}
use Rattle.path_algebra.specs.Walks.{is_marked}
use Rattle.path_plain.specs.Queue.{IsQueue}
use Rattle.tree_search.specs.Marks.{keys_in, relaxed_marks, unsettled}
use Rattle.ranked_queue.specs.Order.{by_number}
use Rattle.tree_search.specs.declared.mark.Mark.{Mark}
use Rattle.tree_search.specs.declared.step.Step.{Step}
use Rattle.tree_search.specs.declared.step.Step.TheVariants.{Settled, Dropped, Ended}

-- the mark of each vertex, which are settled, and how many entries wait in the queue
pub record SearchState (A V : Type 0) : Type 0 where
  pub algebra : A
  pub roads : GraphData
  pub marks : List (Option (Mark V))
  pub settled : List Bool
  pub waiting : ℕ

-- no mark has more hops than there are settled vertices
abbrev pub HaveFewHops : {V : Type 0} → GraphData → List (Option (Mark V)) → List Bool → Type 0
HaveFewHops {V} g marks settled = (i : ℕ) (m : Mark V) → slice_index_or marks i None ≡ Some m → m.hops + unsettled settled ≤ g.vertices

-- a mark for each vertex of a graph, and the queue of the open vertices
pub record IsSearch {K V : Type 0} (key : K → V × ℕ) (place : K → ℕ) (no_worse : V → V → Bool)
    (g : GraphData) (marks : List (Option (Mark V))) (settled : List Bool) (items : List K) : Type 0 where
  pub roads : IsGraph g
  pub marks_count : length marks ≡ g.vertices
  pub settled_count : length settled ≡ g.vertices
  pub few_hops : HaveFewHops g marks settled
  pub queue : IsQueue key place (by_number no_worse) (keys_in marks) settled items

-- nothing more is settled, in the same graph by the same algebra
pub record IsSameSearch {A V : Type 0} (old new : SearchState A V) : Type 0 where
  pub algebra : new.algebra ≡ old.algebra
  pub roads : new.roads ≡ old.roads
  pub settled : new.settled ≡ old.settled

-- no vertex has a mark, and none is settled
pub record IsBlank {A V : Type 0} (s : SearchState A V) : Type 0 where
  pub marks : s.marks ≡ replicate s.roads.vertices None
  pub settled : s.settled ≡ replicate s.roads.vertices false

-- the marks after v, with x and h hops, was extended along each arc that leaves it
abbrev pub Relaxes : {V : Type 0} → Algebra V → GraphData → ℕ → V → ℕ → List (Option (Mark V)) → List (Option (Mark V)) → Type 0
Relaxes A g v x h marks marks' = (numbers : List ℕ) × ListsArcsFrom g v numbers × (marks' ≡ relaxed_marks A g v x h marks numbers)

-- v, the open vertex of the best key, is settled, and what its arcs improve joins the queue
pub record Settles {A V : Type 0} (no_worse : V → V → Bool) (meaning : Algebra V) (v : ℕ) (old new : SearchState A V) : Type 0 where
  pub index : ℕ
  pub vertex : v ≡ index + 1
  pub value : V
  pub hops : ℕ
  pub best : IsBestOpen (by_number no_worse) (keys_in old.marks) old.settled (length (keys_in old.marks)) index (value, hops)
  pub marks : new.settled ≡ slice_set old.settled index true
  pub relaxes : Relaxes meaning old.roads (index + 1) value hops old.marks new.marks
  pub few : new.waiting ≤ old.waiting + length old.roads.arcs

-- an entry of a settled vertex is dropped
pub record Drops {A V : Type 0} (old new : SearchState A V) : Type 0 where
  pub marks : new.marks ≡ old.marks
  pub settled : new.settled ≡ old.settled
  pub fewer : new.waiting < old.waiting

-- a vertex is settled, an entry is dropped, or no open vertex has a mark
abbrev pub Advances : {A V : Type 0} → (V → V → Bool) → Algebra V → Step → SearchState A V → SearchState A V → Type 0
Advances no_worse meaning (Settled v) old new = Settles no_worse meaning v old new
Advances no_worse meaning Dropped old new = Drops old new
Advances no_worse meaning Ended old new =
    (new.marks ≡ old.marks) × (new.settled ≡ old.settled) × AnswersBestOpen (by_number no_worse) (keys_in old.marks) old.settled (length (keys_in old.marks)) None

-- whether the search is at its end
abbrev pub is_end : Step → Bool
is_end (Settled v) = false
is_end Dropped = false
is_end Ended = true

-- a list with the vertex that a step settled at its end
abbrev pub listed_after : Step → List ℕ → List ℕ
listed_after (Settled v) list = list ++ v ∷ []
listed_after Dropped list = list
listed_after Ended list = list

-- a step in the same graph by the same algebra
pub record Proceeds {A V : Type 0} (no_worse : V → V → Bool) (meaning : Algebra V) (step : Step) (old new : SearchState A V) : Type 0 where
  pub algebra : new.algebra ≡ old.algebra
  pub roads : new.roads ≡ old.roads
  pub advances : Advances no_worse meaning step old new

-- the vertex of an entry is settled as it is, an entry is dropped, or no open vertex has a mark
abbrev pub Rests : {A V : Type 0} → (V → V → Bool) → Algebra V → Step → SearchState A V → SearchState A V → Type 0
Rests no_worse meaning (Settled v) old new =
    HasVertex old.roads v × (new.marks ≡ old.marks) × (new.settled ≡ slice_set old.settled (v - 1) true) × (new.waiting < old.waiting)
Rests no_worse meaning Dropped old new = Advances no_worse meaning Dropped old new
Rests no_worse meaning Ended old new = Advances no_worse meaning Ended old new

-- a step that extends nothing, in the same graph
pub record Forgoes {A V : Type 0} (no_worse : V → V → Bool) (meaning : Algebra V) (step : Step) (old new : SearchState A V) : Type 0 where
  pub roads : new.roads ≡ old.roads
  pub rests : Rests no_worse meaning step old new

-- each settled vertex is on the list, and no number that is none
pub record AreSettledOn (g : GraphData) (settled : List Bool) (list : List ℕ) : Type 0 where
  pub inside : (v : ℕ) → Contains list v → HasVertex g v
  pub all : (v : ℕ) → HasVertex g v → is_marked settled v ≡ true → Contains list v

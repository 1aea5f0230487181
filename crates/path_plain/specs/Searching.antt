-- A search, and how it proceeds.
use Rattle.std.specs.Prelude.{◌≡◌, ℕ, ◌+◌, ◌<◌, ◌≤◌, ◌⊎◌, List, length, Bool, true, false, Option, None, replicate, slice_set}
use Rattle.road_graph.specs.GraphData.{GraphData, IsGraph, ListsArcsFrom}
use Rattle.path_algebra.specs.Algebra.{Algebra}
use Rattle.path_algebra.specs.Walks.{relaxed}
use Rattle.path_algebra.specs.Open.{IsBestOpen, AnswersBestOpen}
use Rattle.path_plain.specs.Queue.{IsQueue}
use Rattle.path_plain.specs.Noting.{IsNoted}
use Rattle.path_plain.specs.Ties.{IsFirstOfEquals}

-- the label of each vertex, which are settled, how many entries wait in the queue, and whether
-- labelled vertices are noted
pub record SearchState (A V : Type 0) : Type 0 where
  pub algebra : A
  pub roads : GraphData
  pub labels : List (Option V)
  pub settled : List Bool
  pub waiting : ℕ
  pub notes : Bool

-- a label and a mark for each vertex of a graph, the queue of the open vertices, and a note of each
-- vertex that has either
pub record IsSearch {K V : Type 0} (value : K → V) (place : K → ℕ) (no_worse : V → V → Bool)
    (g : GraphData) (labels : List (Option V)) (settled : List Bool) (items : List K) (touched : Option (List ℕ)) : Type 0 where
  pub roads : IsGraph g
  pub labels_count : length labels ≡ g.vertices
  pub settled_count : length settled ≡ g.vertices
  pub queue : IsQueue value place no_worse labels settled items
  pub noted : IsNoted g.vertices touched labels settled

-- in the same graph by the same algebra
pub record IsOfSame {A V : Type 0} (old new : SearchState A V) : Type 0 where
  pub algebra : new.algebra ≡ old.algebra
  pub roads : new.roads ≡ old.roads
  pub notes : new.notes ≡ old.notes

-- nothing more is settled, in the same graph by the same algebra
pub record IsSameSearch {A V : Type 0} (old new : SearchState A V) : Type 0 where
  pub of_same : IsOfSame old new
  pub settled : new.settled ≡ old.settled

-- no vertex has a label, none is settled, and none waits
pub record IsBlank {A V : Type 0} (s : SearchState A V) : Type 0 where
  pub labels : s.labels ≡ replicate s.roads.vertices None
  pub settled : s.settled ≡ replicate s.roads.vertices false
  pub waiting : s.waiting ≡ 0

-- the labels after x was extended along each arc that leaves v
abbrev pub Relaxes : {V : Type 0} → Algebra V → GraphData → ℕ → V → List (Option V) → List (Option V) → Type 0
Relaxes A g v x labels labels' = (numbers : List ℕ) × ListsArcsFrom g v numbers × (labels' ≡ relaxed A g x labels numbers)

-- the best open vertex is settled, the least if values tie, and what its arcs improve joins the
-- queue
pub record Settles {A V : Type 0} (no_worse : V → V → Bool) (meaning : Algebra V) (old new : SearchState A V) : Type 0 where
  pub index : ℕ
  pub value : V
  pub best : IsBestOpen no_worse old.labels old.settled (length old.labels) index value
  pub first : IsFirstOfEquals old.labels old.settled index value
  pub has_mark : index < length old.settled
  pub marks : new.settled ≡ slice_set old.settled index true
  pub relaxes : Relaxes meaning old.roads (index + 1) value old.labels new.labels
  pub few : new.waiting ≤ old.waiting + length old.roads.arcs

-- an entry of a settled vertex is dropped
pub record Drops {A V : Type 0} (old new : SearchState A V) : Type 0 where
  pub labels : new.labels ≡ old.labels
  pub settled : new.settled ≡ old.settled
  pub fewer : new.waiting < old.waiting

-- one entry is taken, or no open vertex has a label
abbrev pub Advances : {A V : Type 0} → (V → V → Bool) → Algebra V → Bool → SearchState A V → SearchState A V → Type 0
Advances no_worse meaning true old new = Settles no_worse meaning old new ⊎ Drops old new
Advances no_worse meaning false old new =
    (new.labels ≡ old.labels) × (new.settled ≡ old.settled) × AnswersBestOpen no_worse old.labels old.settled (length old.labels) None

-- A searcher for the pairs of a graph.
use Rattle.std.specs.Prelude.{◌≡◌, ℕ, ◌∷◌, [], List, true, Option, Some}
use Rattle.road_graph.specs.GraphData.{GraphData}
use Rattle.path_algebra.specs.Algebra.{Algebra}
use Rattle.path_plain.specs.Searching.{SearchState}
use Rattle.path_plain.specs.Rounds.{Between}

-- of which graph it is, by which algebra, from which source its search came, if it has one, and the
-- labels of the question before
pub record SearcherState (A V : Type 0) : Type 0 where
  pub algebra : A
  pub roads : GraphData
  pub source : Option ℕ
  pub labels : List (Option V)

-- its search can be put back, and if it has a source it is one from there, between two rounds
pub record IsSearcher {A V : Type 0} (meaning : Algebra V) (search : SearchState A V) (source : Option ℕ) : Type 0 where
  pub notes : search.notes ≡ true
  pub between : (v : ℕ) → source ≡ Some v → Between meaning search.roads (v ∷ []) search.labels search.settled

-- of the same graph, by the same algebra
pub record IsOfSameGraph {A V : Type 0} (old new : SearcherState A V) : Type 0 where
  pub algebra : new.algebra ≡ old.algebra
  pub roads : new.roads ≡ old.roads

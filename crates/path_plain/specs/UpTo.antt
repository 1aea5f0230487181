-- Labels that are best as far as the target of a search, and when a search has come so far.
use Rattle.std.specs.Prelude.{◌≡◌, ℕ, ◌<◌, List, length, Bool, false, IsTrue, Option, Some, None, slice_index_or}
use Rattle.road_graph.specs.GraphData.{GraphData, HasVertex}
use Rattle.path_algebra.specs.Algebra.{Algebra}
use Rattle.path_algebra.specs.Walks.{label_of, IsBest, IsBestLabel, IsUnreached, AreWalkValues, AreBest}

-- one label for each vertex, each the value of a walk; the target's is best, and so is that of each
-- vertex whose best value is no worse; if no walk to the target has a value all labels are best
pub record AreBestUpTo {V : Type 0} (A : Algebra V) (g : GraphData) (sources : List ℕ) (target : ℕ) (labels : List (Option V)) : Type 0 where
  pub count : length labels ≡ g.vertices
  pub values : AreWalkValues A g sources labels
  pub at_target : IsBestLabel A g sources target (label_of labels target)
  pub near : (t : V) → IsBest A g sources target t → (v : ℕ) (x : V) → HasVertex g v → IsBest A g sources v x →
      IsTrue (A.no_worse x t) → label_of labels v ≡ Some x
  pub all : IsUnreached A g sources target → AreBest A g sources labels

-- best up to the target, or everywhere if there is none
abbrev pub AreBestAsFar : {V : Type 0} → Algebra V → GraphData → List ℕ → Option ℕ → List (Option V) → Type 0
AreBestAsFar A g sources None labels = AreBest A g sources labels
AreBestAsFar A g sources (Some target) labels = AreBestUpTo A g sources target labels

-- the target has a label, and that of each open vertex is worse
pub record IsPast {V : Type 0} (no_worse : V → V → Bool) (labels : List (Option V)) (settled : List Bool) (target : ℕ) : Type 0 where
  pub value : V
  pub label : label_of labels target ≡ Some value
  pub worse : (j : ℕ) (y : V) → j < length labels → slice_index_or settled j false ≡ false →
      slice_index_or labels j None ≡ Some y → no_worse y value ≡ false

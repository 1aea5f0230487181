-- A searcher that is kept from one list of sources to the next.
use Rattle.std.specs.Prelude.{ℕ, List, Option}
use Rattle.road_graph.specs.GraphData.{GraphData}
use Rattle.route_tree.specs.Tree.{Branches}

-- of which graph it is; the vertices that its last search reached, and the labels and the tree that
-- it found
pub record TreeSearcherState (V : Type 0) : Type 0 where
  pub roads : GraphData
  pub reached : List ℕ
  pub labels : List (Option V)
  pub tree : Branches

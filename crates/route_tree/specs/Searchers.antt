-- Searchers of one graph by one algebra.
use Rattle.std.specs.Prelude.{◌≡◌}
use Rattle.road_graph.specs.GraphData.{GraphData}
use Rattle.path_plain.specs.Searcher.{SearcherState}

-- it searches this graph by this algebra
pub record IsSearcherOf {S V : Type 0} (algebra : S) (g : GraphData) (s : SearcherState S V) : Type 0 where
  pub by : s.algebra ≡ algebra
  pub over : s.roads ≡ g

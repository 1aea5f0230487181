-- When two lists of arcs are the same graph: they may differ in the order of arcs with other tails.
use Rattle.std.specs.Prelude.{◌≡◌, ℕ, List}
use Rattle.road_graph.specs.declared.OutRoad.{OutRoad}
use Rattle.road_graph.specs.GraphData.{GraphData, HasVertex, IsGraph, ListsRoadsFrom}

-- the same roads leave v in both graphs, in the same order
abbrev pub HasSameRoads : GraphData → GraphData → ℕ → Type 0
HasSameRoads g h v = (out : List OutRoad) × ListsRoadsFrom g v out × ListsRoadsFrom h v out

-- h is a graph on the vertices of g, and at each vertex it has the same roads, in the same order
pub record IsReordered (g h : GraphData) : Type 0 where
  pub graph : IsGraph h
  pub vertices : h.vertices ≡ g.vertices
  pub roads : (v : ℕ) → HasVertex g v → HasSameRoads g h v

-- a graph, and the same one with its arcs in the order in which a caller numbers them
pub record Numbering : Type 0 where
  pub roads : GraphData
  pub numbered : GraphData

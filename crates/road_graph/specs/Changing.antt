-- A graph in which arcs have other weights.
use Rattle.std.specs.Prelude.{◌≡◌, ℕ, cond, eqb, List, [], ◌∷◌, map, All, slice_index_or}
use Rattle.road_graph.specs.declared.RoadArc.{RoadArc}
use Rattle.road_graph.specs.declared.OutRoad.{OutRoad}
use Rattle.road_graph.specs.GraphData.{GraphData, HasArc, arc_of, road_of}

-- an arc after a change, which gives each arc from its tail to its head its weight
abbrev pub with_change : RoadArc → RoadArc → RoadArc
with_change c a = cond (eqb a.tail c.tail) (cond (eqb a.head c.head) c a) a

-- an arc after changes one after the other
abbrev pub arc_after : List RoadArc → RoadArc → RoadArc
arc_after [] a = a
arc_after (c ∷ changes) a = arc_after changes (with_change c a)

-- the graph after changes
abbrev pub graph_after : List RoadArc → GraphData → GraphData
graph_after changes g = record { vertices = g.vertices; arcs = map (arc_after changes) g.arcs }

-- some arc leads from the tail of c to its head
abbrev pub HasEnds : GraphData → RoadArc → Type 0
HasEnds g c = (a : ℕ) × HasArc g a × ((arc_of g a).tail ≡ c.tail) × ((arc_of g a).head ≡ c.head)

-- there is such an arc for each
abbrev pub HaveEnds : GraphData → List RoadArc → Type 0
HaveEnds g changes = All (HasEnds g) changes

-- a road from the tail of a change after it
abbrev pub road_after : RoadArc → OutRoad → OutRoad
road_after c r = cond (eqb r.head c.head) (road_of c) r

-- a road of a list
abbrev pub road_at : List OutRoad → ℕ → OutRoad
road_at roads k = slice_index_or roads k (record { head = 0; weight = 0 })

-- arcs, and how often weights of them were changed
pub record ArcHistory : Type 0 where
  pub list : List RoadArc
  pub changes : ℕ

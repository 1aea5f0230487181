-- The arcs that leave a vertex, as a caller in C reads them back.
use Rattle.std.specs.Prelude.{◌≡◌, ℕ, List, length, map}
use Rattle.road_graph.specs.GraphData.{GraphData, ListsArcsFrom, arc_of}
use Rattle.road_graph.specs.declared.OutRoad.{OutRoad}
use Rattle.diffuse_c.specs.declared.arcs.DiffuseArc.{DiffuseArc}
use Rattle.diffuse_c.specs.Lent.{arc_from}

-- these are exactly the arcs of the graph that leave v, in the order of the graph
abbrev pub AreArcsFrom : GraphData → ℕ → List DiffuseArc → Type 0
AreArcsFrom g v arcs = (numbers : List ℕ) × ListsArcsFrom g v numbers × (map arc_from arcs ≡ map (arc_of g) numbers)

-- so many arcs leave v
abbrev pub IsCountFrom : GraphData → ℕ → ℕ → Type 0
IsCountFrom g v count = (numbers : List ℕ) × ListsArcsFrom g v numbers × (count ≡ length numbers)

-- a road out of v, as an arc
abbrev pub arc_out_of : ℕ → OutRoad → DiffuseArc
arc_out_of v r = record { tail = v; head = r.head; weight = r.weight }

-- Two graphs as lists of arcs.
use Rattle.std.specs.Prelude.{ℕ, [], ◌∷◌}
use Rattle.road_graph.specs.declared.RoadArc.{RoadArc}
use Rattle.road_graph.specs.GraphData.{GraphData}

abbrev pub arc : ℕ → ℕ → ℕ → RoadArc
arc t h w = record { tail = t; head = h; weight = w }

-- five vertices, with a self-loop at 4; no arc leads to 5
abbrev pub five : GraphData
five = record { vertices = 5; arcs = arc 1 2 4 ∷ arc 1 3 1 ∷ arc 3 2 2 ∷ arc 2 4 5 ∷ arc 3 4 8 ∷ arc 4 4 0 ∷ arc 5 1 3 ∷ [] }

-- two locks, one after the other
abbrev pub two_locks : GraphData
two_locks = record { vertices = 7; arcs = arc 1 2 0 ∷ arc 2 4 2 ∷ arc 2 3 0 ∷ arc 3 4 0 ∷ arc 4 5 0 ∷ arc 5 7 1 ∷ arc 5 6 0 ∷ arc 6 7 0 ∷ [] }

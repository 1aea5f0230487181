-- The greatest cost into a vertex.
use Rattle.std.specs.Prelude.{ℕ, List, [], ◌∷◌, max, ◌==◌, if◌then◌else◌}
use Rattle.road_graph.specs.declared.RoadArc.{RoadArc}

-- the greatest cost among the arcs that enter v; 0 if none does
abbrev pub greatest_into : (ℕ → ℕ) → ℕ → List RoadArc → ℕ
greatest_into cost v [] = 0
greatest_into cost v (a ∷ arcs) = max (if a.head == v then cost a.weight else 0) (greatest_into cost v arcs)

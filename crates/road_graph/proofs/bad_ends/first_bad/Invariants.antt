use Rattle.std.proofs.Common.{ℕ, ◌≤◌, ◌<◌, ◌^◌}
use Rattle.road_graph.specs.GraphData.{JoinsVertices, arc_of}
use Rattle.road_graph.proofs.bad_ends.first_bad.Given as goal

abbrev pub invariant-loop-i : goal.invariant-loop-i
invariant-loop-i l = record {
  join : (a : ℕ) → 1 ≤ a → a ≤ l.i → JoinsVertices l.n (arc_of (record { vertices = l.n; arcs = l.arcs }) a);
  fit : (a : ℕ) → 1 ≤ a → a ≤ l.i → (arc_of (record { vertices = l.n; arcs = l.arcs }) a).weight < 2 ^ 32;
}

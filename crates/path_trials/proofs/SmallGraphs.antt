-- The two graphs are graphs, and how many walks to the tails of their arcs pass no vertex twice.
use Rattle.std.proofs.Common.{◌≡◌, ℕ, zero, suc, ◌-◌, ◌<◌, ◌≤◌, ◌^◌, List, [], ◌∷◌, length, get_or, refl, arith}
use Rattle.road_graph.specs.declared.RoadArc.{RoadArc}
use Rattle.road_graph.specs.GraphData.{GraphData, IsGraph, HasVertex, JoinsVertices}
use Rattle.path_algebra.specs.SimpleWalks.{walks_beyond}
use Rattle.scholten_core.specs.SimpleWalks.{message_bound}
use Rattle.path_trials.specs.SmallGraphs.{five, two_locks}

-- each arc joins vertices 1 to n, and its weight is below 2^32
abbrev AreInside : ℕ → List RoadArc → Type 0
AreInside n [] = Unit {0}
AreInside n (a ∷ arcs) = JoinsVertices n a × (a.weight < 2 ^ 32) × AreInside n arcs

arc_inside : (n : ℕ) (arcs : List RoadArc) → AreInside n arcs → (k : ℕ) (d : RoadArc) → k < length arcs → JoinsVertices n (get_or arcs k d) × ((get_or arcs k d).weight < 2 ^ 32)
arc_inside n [] i k d l = absurd (omega arith)
arc_inside n (a ∷ arcs) i zero d l = (i.0, i.1)
arc_inside n (a ∷ arcs) i (suc k) d l = arc_inside n arcs i.2 k d (omega arith)

roads_from : (g : GraphData) → AreInside g.vertices g.arcs → g.vertices ≤ 2 ^ 25 → length g.arcs ≤ 2 ^ 27 → IsGraph g
roads_from g i v a = record {
  ends = λ b h. (arc_inside g.vertices g.arcs i (b - 1) (record { tail = 0; head = 0; weight = 0 }) (let low = h.0 in let high = h.1 in omega (arith, low, high))).0;
  weights = λ b h. (arc_inside g.vertices g.arcs i (b - 1) (record { tail = 0; head = 0; weight = 0 }) (let low = h.0 in let high = h.1 in omega (arith, low, high))).1;
  few_vertices = v;
  few_arcs = a;
}

pub five_roads : IsGraph five
five_roads = roads_from five (omega arith) (omega arith) (omega arith)

pub five_source : HasVertex five 1
five_source = omega arith

pub five_bound : message_bound five 1 ≡ 10
unfolding walks_beyond
five_bound = refl

pub locks_roads : IsGraph two_locks
locks_roads = roads_from two_locks (omega arith) (omega arith) (omega arith)

pub locks_source : HasVertex two_locks 1
locks_source = omega arith

pub locks_bound : message_bound two_locks 1 ≡ 13
unfolding walks_beyond
locks_bound = refl

-- Arcs as a caller in C lends them, and why no graph is built of them.
use Rattle.std.specs.Prelude.{◌≡◌, ℕ, ◌<◌, ◌⊎◌, ◌↔◌, [], ◌∷◌, List, ℤ, pos, length, map}
use Rattle.road_graph.specs.GraphData.{GraphData, IsGraph}
use Rattle.road_graph.specs.declared.RoadArc.{RoadArc}
use Rattle.answer_lists.specs.Answers.{IsOneOf}
use Rattle.diffuse_c.specs.declared.arcs.DiffuseArc.{DiffuseArc}

-- the arc of the graph, from a lent arc
abbrev pub arc_from : DiffuseArc → RoadArc
arc_from a = record { tail = a.tail; head = a.head; weight = a.weight }

-- the graph of n vertices and these arcs
abbrev pub lent : ℕ → List DiffuseArc → GraphData
lent n arcs = record { vertices = n; arcs = map arc_from arcs }

-- there are more vertices or arcs than a graph may have
abbrev pub IsTooLarge : ℕ → List DiffuseArc → Type 0
IsTooLarge vertices arcs = (33554432 < vertices) ⊎ (134217728 < length arcs)

-- there are not too many, but an end of an arc is no vertex
abbrev pub IsBadlyJoined : ℕ → List DiffuseArc → Type 0
IsBadlyJoined vertices arcs = (IsTooLarge vertices arcs → ⊥) × (IsGraph (lent vertices arcs) → ⊥)

-- a graph can be built: there are not too many vertices or arcs, and each end of an arc is a vertex
pub record Fits (vertices : ℕ) (arcs : List DiffuseArc) : Type 0 where
  pub small : IsTooLarge vertices arcs → ⊥
  pub roads : IsGraph (lent vertices arcs)

-- why no graph was built: there are too many vertices or arcs, an arc has an end that is no vertex,
-- or memory ran out for a graph
pub record IsFault (vertices : ℕ) (arcs : List DiffuseArc) (status : ℤ) : Type 0 where
  pub one_of : IsOneOf (3 ∷ 16 ∷ 17 ∷ []) status
  pub limit : (status ≡ pos 16) ↔ IsTooLarge vertices arcs
  pub bad : (status ≡ pos 17) ↔ IsBadlyJoined vertices arcs
  pub memory : status ≡ pos 3 → IsGraph (lent vertices arcs)

-- Which calls are refused, and why.
use Rattle.std.specs.Prelude.{◌≡◌, ◌↔◌, ℕ, List, ℤ, pos, Option, IsSome, None, true}
use Rattle.road_graph.specs.GraphData.{IsGraph}
use Rattle.path_algebra.specs.Choices.{IsAlgebra}
use Rattle.arc_numbers.specs.Numbering.{Numbering}
use Rattle.answer_lists.specs.Answers.{IsOneOf}
use Rattle.answer_lists.specs.Sharing.{Shared}
use Rattle.diffuse_c.specs.declared.arcs.DiffuseArc.{DiffuseArc}
use Rattle.diffuse_c.specs.Holding.{has_graph}
use Rattle.diffuse_c.specs.Lent.{IsBadlyJoined, IsTooLarge, lent}

-- which handles, with these graphs or none, are refused, in this order: a second one that is open,
-- a first one that is closed
pub record ReportsHandles (first second : Option Shared) (status : ℤ) : Type 0 where
  pub opened : (status ≡ pos 5) ↔ (has_graph second ≡ true)
  pub closed : (status ≡ pos 4) ↔ ((second ≡ None) × (first ≡ None))

-- which arcs are refused for a handle that is closed, in this order: those with too many vertices
-- or too many of them, those with an end that is no vertex; the other statuses are only of arcs of
-- a graph
pub record ReportsArcs (shared : Option Shared) (vertices : ℕ) (arcs : List DiffuseArc) (others : List ℕ) (status : ℤ) : Type 0 where
  pub limit : (status ≡ pos 16) ↔ ((shared ≡ None) × IsTooLarge vertices arcs)
  pub bad : (status ≡ pos 17) ↔ ((shared ≡ None) × IsBadlyJoined vertices arcs)
  pub joined : IsOneOf others status → IsGraph (lent vertices arcs)

-- which questions about the arcs of a route are refused, in this order: the arcs have no numbers,
-- the ends are no vertices, there is no such algebra
pub record ReportsNumberedRefusals (numbers : Option Numbering) (are_vertices : Type 0) (number limit : ℕ) (status : ℤ) : Type 0 where
  pub unnumbered : (status ≡ pos 47) ↔ (numbers ≡ None)
  pub vertex : (status ≡ pos 17) ↔ (IsSome numbers × (are_vertices → ⊥))
  pub algebra : (status ≡ pos 43) ↔ (IsSome numbers × are_vertices × (IsAlgebra number limit → ⊥))

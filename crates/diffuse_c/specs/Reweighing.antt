-- Why no handle is opened with other arcs over the factors of another one.
use Rattle.std.specs.Prelude.{◌≡◌, ◌↔◌, [], ◌∷◌, List, ℤ, pos}
use Rattle.road_graph.specs.GraphData.{IsGraph}
use Rattle.path_factors.specs.Reweighing.{JoinsNoOthers}
use Rattle.answer_lists.specs.Answers.{IsOneOf}
use Rattle.answer_lists.specs.Reweighing.{IsHeavy}
use Rattle.answer_lists.specs.Sharing.{Shared, reweighed}
use Rattle.diffuse_c.specs.declared.arcs.DiffuseArc.{DiffuseArc}
use Rattle.diffuse_c.specs.Lent.{IsBadlyJoined, IsTooLarge, lent}

-- a graph of other arcs on the same vertices, factored as the first is
abbrev pub reweighed_by : Shared → List DiffuseArc → Shared
reweighed_by first arcs = reweighed first (lent first.roads.vertices arcs)

-- there are too many arcs, an arc has an end that is no vertex, memory ran out, sums do not fit, an
-- arc has no link, or a stop was set; there is no link only if the arcs join vertices that no arc of
-- the first joins
pub record IsReweighFault (first : Shared) (arcs : List DiffuseArc) (status : ℤ) : Type 0 where
  pub one_of : IsOneOf (3 ∷ 8 ∷ 16 ∷ 17 ∷ 44 ∷ 45 ∷ []) status
  pub limit : (status ≡ pos 16) ↔ IsTooLarge first.roads.vertices arcs
  pub bad : (status ≡ pos 17) ↔ IsBadlyJoined first.roads.vertices arcs
  pub roads : IsOneOf (3 ∷ 8 ∷ 44 ∷ 45 ∷ []) status → IsGraph (lent first.roads.vertices arcs)
  pub heavy : status ≡ pos 8 → IsHeavy first (lent first.roads.vertices arcs)
  pub link : status ≡ pos 44 → JoinsNoOthers (lent first.roads.vertices arcs) first.roads → ⊥

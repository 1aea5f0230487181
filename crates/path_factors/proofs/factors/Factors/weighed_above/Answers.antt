use Rattle.path_factors.proofs.Words.{◌≡◌, ◌∙◌, Bool, List, Link, FactorData, ap, arc_value, subst, sym, AreBlanked, FactorState, IsKnownUpward, IsOpen, IsOutline, heads_in}
use Rattle.path_factors.proofs.FewWeights.{Changed, changed}
use Rattle.path_factors.proofs.factors.Factors.weighed_above.Goals as goal
use Rattle.path_factors.proofs.factors.Factors.weighed_above.Goals.{In_ok-rows}

-- the rows without walks above the changes
blanked : (g : _) (c : In_ok-rows g) → Changed (g.A.PathAlgebra.meaning c.args.self.now.algebra) (g.A.ComposingAlgebra.walks c.args.self.now.algebra) c.args.graph.now c.in_ok-marks.marks.items (record {
  order = (arc_value c.in_ok-order.order).value.vertices.items;
  places = c.in_ok-places.places.items;
  leaving = c.in_ok-rows.rows.leaving;
  entering = c.in_ok-rows.rows.entering;
})
blanked g c =
    let S = c.args.self.now in
    let marks = c.in_ok-marks.marks.items in
    let rows = c.in_ok-rows.rows in
    let C = g.A.ComposingAlgebra.walks S.algebra in
    let none : c.no_walk.result ≡ C.no_walk = c.no_walk.ensures ∙ (λ i. (g.A.ComposingAlgebra.walks (c.self.view_is i).algebra).no_walk) in
    let order = ap (λ o. o.value.vertices.items) c.in_ok-order.ensures ∙ (λ i. (c.self.view_is i).factor.order) in
    let places = c.in_ok-places.ensures.items_if_clones_equal (λ x y is. is) ∙ c.deref.ensures.value ∙ (λ i. (c.self.view_is i).factor.places) in
    subst (λ (F : FactorData g.row.A-Walk.Denot). Changed (g.A.PathAlgebra.meaning S.algebra) C c.args.graph.now marks F)
    (λ i. record { order = (sym order) i; places = (sym places) i; leaving = rows.leaving; entering = rows.entering })
    (changed (g.A.PathAlgebra.meaning S.algebra) C c.holds.ensures.composes c.args.changes.now c.args.graph.now S.roads c.requires.differs S.factor
    (subst (λ h. IsOutline S.roads S.factor.places h) c.requires.heads c.holds.ensures.outline) c.requires.whole marks c.in_ok-marks.ensures.count
    (subst (λ h. IsKnownUpward h marks) c.requires.heads c.in_ok-marks.ensures.upward) c.in_ok-marks.ensures.marked rows
    (subst (λ (p : g.row.A-Walk.Denot × List Bool × List (List (Link g.row.A-Walk.Denot))). AreBlanked p.0 p.1 p.2 rows.leaving) (λ i. (none i, c.deref-2.ensures.value i, (c.self.view_is i).factor.leaving)) c.in_ok-rows.ensures.leaving)
    (subst (λ (p : g.row.A-Walk.Denot × List Bool × List (List (Link g.row.A-Walk.Denot))). AreBlanked p.0 p.1 p.2 rows.entering) (λ i. (none i, c.deref-2.ensures.value i, (c.self.view_is i).factor.entering)) c.in_ok-rows.ensures.entering)
    (subst (λ (t : FactorState g.row.A.Denot g.row.A-Walk.Denot). heads_in t.factor.entering ≡ heads_in t.factor.leaving) c.self.view_is c.len.ensures.heads))

pub open-weighing-requires-clause-links : goal.open-weighing-requires-clause-links
open-weighing-requires-clause-links g c κs within =
    let rows = c.in_ok-rows.rows in
    let alg : c.self.inside.algebra ≡ c.args.self.now.algebra = λ i. (c.self.view_is i).algebra in
    subst (λ a. IsOpen (g.A.PathAlgebra.meaning a) (g.A.ComposingAlgebra.walks a) c.args.graph.now
    (record { order = (arc_value c.in_ok-order.order).value.vertices.items; places = c.in_ok-places.places.items; leaving = rows.leaving; entering = rows.entering })) (sym alg)
    (blanked g (goal.at.open-weighing-requires-clause-links g c).In_ok-rows).links

pub weigh-requires-clause-rest : goal.weigh-requires-clause-rest
weigh-requires-clause-rest g c κs within =
    let w = c.open-weighing.ensures in
    let alg : c.self.inside.algebra ≡ c.args.self.now.algebra = λ i. (c.self.view_is i).algebra in
    rw (w.algebra, w.roads, w.factor, c.deref-3.ensures.value, alg) (blanked g (goal.at.weigh-requires-clause-rest g c).In_ok-rows).whole

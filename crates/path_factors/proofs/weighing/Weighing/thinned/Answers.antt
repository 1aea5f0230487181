use Rattle.path_factors.proofs.Words.{◌≡◌, ◌∙◌, ◌++◌, ◌∷◌, [], List, Bool, ap, arith, subst, IsLawful, row_of, AreThinTo, marked}
use Rattle.path_factors.proofs.Pruning.{thin_none, thin_more}
use Rattle.path_factors.proofs.weighing.Weighing.thinned.Goals as goal

pub loop-v-init : goal.loop-v-init
loop-v-init g c =
    let S = c.args.self.now in
    let lawful = subst (λ a. IsLawful (g.A.PathAlgebra.meaning a)) (λ i. (c.self.view_is i).algebra) c.laws_hold.ensures.lawful in
    thin_none (g.A.PathAlgebra.meaning S.algebra) lawful (g.A.ComposingAlgebra.walks S.algebra) c.holds.ensures.composes S.factor c.in_ok-rows.rows
    c.in_ok-rows.ensures.leaving c.in_ok-rows.ensures.entering

pub loop-v-preserved : goal.loop-v-preserved
loop-v-preserved g c =
    let S = c.args.self.now in
    let v = c.loop-v.v in
    let rows = c.loop-v.rows in
    let marks = c.mark.new.marks.items in
    let lawful = subst (λ a. IsLawful (g.A.PathAlgebra.meaning a)) (λ i. (c.self.view_is i).algebra) c.laws_hold.ensures.lawful in
    thin_more (g.A.PathAlgebra.meaning S.algebra) lawful (g.A.ComposingAlgebra.walks S.algebra) c.holds.ensures.composes S.factor v rows c.in_ok-rows-2.rows marks
    c.loop-v.invariant c.in_ok-mark.ensures.serve
    (c.in_ok-rows-2.ensures.leaving ∙ ap (λ (m : List Bool). rows.leaving ++ marked (row_of c.self.inside.rows.leaving v) m ∷ []) c.deref.ensures.value
    ∙ (λ i. rows.leaving ++ marked (row_of (c.self.view_is i).factor.leaving v) marks ∷ []))
    (c.in_ok-rows-2.ensures.entering ∙ ap (λ (m : List Bool). rows.entering ++ marked (row_of c.self.inside.rows.entering v) m ∷ []) c.deref.ensures.value
    ∙ (λ i. rows.entering ++ marked (row_of (c.self.view_is i).factor.entering v) marks ∷ []))

pub mark-requires-after_bounds : goal.mark-requires-after_bounds
mark-requires-after_bounds g c κs within =
    let n : c.self.inside.graph.now.vertices ≡ c.args.self.now.roads.vertices = λ i. (c.self.view_is i).roads.vertices in
    omega (arith, n, c.loop-v-test.true, c.vertices-n.ensures.count)

pub returns-clause-thin : goal.returns-clause-thin
returns-clause-thin g c =
    let S = c.args.self.now in
    let n : c.self.inside.graph.now.vertices ≡ S.roads.vertices = λ i. (c.self.view_is i).roads.vertices in
    let is : c.loop-v.v ≡ S.roads.vertices = omega (arith, n, c.loop-v-test.false, c.loop-v.auto.v-end, c.vertices-n.ensures.count) in
    subst (λ k. AreThinTo (g.A.PathAlgebra.meaning S.algebra) (g.A.ComposingAlgebra.walks S.algebra) S.factor k c.loop-v.rows) is c.loop-v.invariant

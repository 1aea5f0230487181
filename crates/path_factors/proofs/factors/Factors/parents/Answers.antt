use Rattle.path_factors.proofs.Words.{get_or, subst, arc_value, FactorState, AreParentsTo}
use Rattle.path_factors.proofs.Trees.{parent_inside}
use Rattle.path_factors.proofs.factors.Factors.parents.Goals as goal

pub returns-clause-parents : goal.returns-clause-parents
returns-clause-parents g c =
    rw (c.as_slice.ensures.value, c.deref.ensures)
    (subst (λ (s : FactorState g.row.A.Denot g.row.A-Walk.Denot). AreParentsTo s.heads s.roads.vertices s.roads.vertices (arc_value c.self.inside.parents).items)
    c.self.view_is c.self.invariant.1)

pub returns-clause-above : goal.returns-clause-above
returns-clause-above g c = λ v low.
    let S = c.args.self.now in
    parent_inside S.roads.vertices S.heads c.holds.ensures.outline.are v (get_or c.as_slice.result.now v 0) low ((returns-clause-parents g c).parent v low)

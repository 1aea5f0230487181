use Rattle.path_factors.proofs.Words.{arc_value, sym, subst, IsWhole, IsLawful, heads_in, FactorState, AreParentsTo, IsFactored}
use Rattle.path_factors.proofs.Pruning.{whole_is_factored, pruned_is_factored}
use Rattle.path_factors.proofs.weighing.Weighing.prune.Goals as goal
use Rattle.path_factors.proofs.weighing.Weighing.prune.Goals.{in-All, in-Needed+in_ok-rows-in-Needed+in_ok-heads-in-Needed}

pub invariant_of-result : goal.invariant_of-result
invariant_of-result g c =
    let S = c.args.self in
    let A = g.A.PathAlgebra.meaning S.algebra in
    let C = g.A.ComposingAlgebra.walks S.algebra in
    let h = c.holds.ensures in
    let lawful = subst (λ a. IsLawful (g.A.PathAlgebra.meaning a)) (λ i. (c.self.view_is i).algebra) c.laws_hold.ensures.lawful in
    let parents = subst (λ p. AreParentsTo (heads_in S.factor.leaving) S.roads.vertices S.roads.vertices p.items) (sym c.in_ok-parents-2.ensures) c.in_ok-parents.ensures in
    elim c.match-making.branch [
      | in-All w ↦ rw (c.of.ensures, w.heads-is, w.self-inside-is) (
        subst (λ (t : FactorState g.row.A.Denot g.row.A-Walk.Denot).
            IsFactored (g.A.PathAlgebra.meaning t.algebra) (g.A.ComposingAlgebra.walks t.algebra) t.roads t.factor (heads_in t.factor.leaving)) (sym c.self.view_is)
            (whole_is_factored A lawful C h.composes S.factor S.roads c.requires.whole.covers c.requires.whole.closed h.begun h.aligned h.roads h.outline),
        subst (λ (t : FactorState g.row.A.Denot g.row.A-Walk.Denot).
            AreParentsTo (heads_in t.factor.leaving) t.roads.vertices t.roads.vertices (arc_value c.in_ok-parents-2.parents).items) (sym c.self.view_is) parents,
        λ none. subst (λ (t : FactorState g.row.A.Denot g.row.A-Walk.Denot).
            IsWhole (g.A.PathAlgebra.meaning t.algebra) (g.A.ComposingAlgebra.walks t.algebra) t.roads t.factor) (sym c.self.view_is)
            c.requires.whole,
      )
      | in-Needed+in_ok-rows-in-Needed+in_ok-heads-in-Needed w ↦
          let rows = w.in_ok-rows-in-Needed.rows in
          rw (c.of.ensures, w.heads-is, w.self-inside-is, w.in_ok-heads-in-Needed.ensures, w.into_heads-heads.ensures) (
            subst (λ (t : FactorState g.row.A.Denot g.row.A-Walk.Denot).
                IsFactored (g.A.PathAlgebra.meaning t.algebra) (g.A.ComposingAlgebra.walks t.algebra) t.roads
                (record { order = t.factor.order; places = t.factor.places; leaving = rows.leaving; entering = rows.entering }) (heads_in t.factor.leaving)) (sym c.self.view_is)
                (pruned_is_factored A lawful C h.composes S.factor S.roads c.requires.whole.covers c.requires.whole.closed h.begun h.aligned h.roads h.outline
                rows w.in_ok-rows-in-Needed.ensures.thin),
            subst (λ (t : FactorState g.row.A.Denot g.row.A-Walk.Denot).
                AreParentsTo (heads_in t.factor.leaving) t.roads.vertices t.roads.vertices (arc_value c.in_ok-parents-2.parents).items) (sym c.self.view_is) parents,
            λ none. absurd (cc),
          )
    ]

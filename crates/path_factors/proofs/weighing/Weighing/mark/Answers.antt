use Rattle.path_factors.proofs.Words.{◌≡◌, ◌∙◌, ◌++◌, List, Bool, length, take, drop, ap, arith, sym, subst, common_steps, DoForAll}
use Rattle.path_factors.proofs.weighing.Weighing.mark.Goals as goal

pub choose_after-requires-clause-serve : goal.choose_after-requires-clause-serve
choose_after-requires-clause-serve g c κs within =
    let S = c.args.self.now in
    let read : c.deref_mut.result.now ≡ c.loop-i.marks.items = grind (arith, common_steps) in
    subst (λ (l : List Bool). DoForAll (g.A.PathAlgebra.meaning S.algebra) (g.A.ComposingAlgebra.walks S.algebra) S.factor c.args.v l) (sym read) c.loop-i.invariant.serve

pub loop-i-preserved : goal.loop-i-preserved
loop-i-preserved g c =
    let S = c.args.self.now in
    let read : c.deref_mut.result.now ≡ c.loop-i.marks.items = grind (arith, common_steps) in
    let marks = c.choose_after.new.marks in
    let put : take c.loop-i.marks.len (marks ++ drop (length marks) c.loop-i.marks.items) ≡ marks = grind (arith, common_steps) in
    record {
      marks = ap length put ∙ (c.choose_after.ensures.marks ∙ ap length read) ∙ c.loop-i.invariant.marks;
      serve = subst (λ (l : List Bool). DoForAll (g.A.PathAlgebra.meaning S.algebra) (g.A.ComposingAlgebra.walks S.algebra) S.factor c.args.v l) (sym put) c.choose_after.ensures.serve;
    }

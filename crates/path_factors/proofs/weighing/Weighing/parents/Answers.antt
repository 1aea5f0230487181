use Rattle.path_factors.proofs.Words.{◌≡◌, ◌+◌, ◌++◌, ◌∷◌, [], arith, sym, subst, common_steps, heads_in, AreParentsTo}
use Rattle.path_factors.proofs.Trees.{parents_more}
use Rattle.path_factors.proofs.weighing.Weighing.parents.Goals as goal

pub loop-v-preserved : goal.loop-v-preserved
loop-v-preserved g c =
    let S = c.args.self.now in
    let v = c.loop-v.v in
    let p = c.parent.result in
    let put : c.push.new.self.items ≡ c.loop-v.parents.items ++ p ∷ [] = grind (arith, common_steps) in
    subst (AreParentsTo (heads_in S.factor.leaving) S.roads.vertices (v + 1)) (sym put)
    (parents_more (heads_in S.factor.leaving) S.roads.vertices v p c.loop-v.parents.items c.loop-v.invariant c.parent.ensures)

pub returns : goal.returns
returns g c =
    let S = c.args.self.now in
    let n : c.self.inside.graph.now.vertices ≡ S.roads.vertices = λ i. (c.self.view_is i).roads.vertices in
    subst (λ k. AreParentsTo (heads_in S.factor.leaving) S.roads.vertices k c.loop-v.parents.items)
    (omega (arith, n, c.loop-v-test.false, c.loop-v.auto.v-end, c.vertices-n.ensures.count)) c.loop-v.invariant

use Rattle.path_factors.proofs.Words.{◌≡◌, ◌+◌, arith, subst, IsClosedOn, Improves}
use Rattle.path_factors.proofs.Connecting.{same_more}
use Rattle.path_factors.proofs.Eliminating.{eliminated_to_more}
use Rattle.path_factors.proofs.weighing.Weighing.eliminate_all.Goals as goal

pub loop-v-preserved : goal.loop-v-preserved
loop-v-preserved g c =
    let C = g.A.ComposingAlgebra.walks c.args.self.now.algebra in
    let k = c.loop-v.v in
    let G = c.loop-v.self.factor in
    let H = c.eliminate.new.self.factor in
    let alg = c.loop-v.invariant.same.algebra in
    let improves = subst (λ a. Improves (g.A.ComposingAlgebra.walks a) (k + 1) G H) alg c.in_ok-eliminate.ensures.improves in
    let closed = subst (λ a. IsClosedOn (g.A.ComposingAlgebra.walks a) c.args.marks.now H k) alg c.in_ok-eliminate.ensures.closed in
    record {
      same = same_more c.args.self.now c.loop-v.self c.eliminate.new.self c.loop-v.invariant.same c.in_ok-eliminate.ensures.same;
      eliminated = eliminated_to_more C c.holds.ensures.composes.ordered c.args.marks.now c.args.self.now.factor G H k c.loop-v.invariant.eliminated improves c.in_ok-eliminate.ensures.rest closed;
    }

pub returns-clause-closed : goal.returns-clause-closed
returns-clause-closed g c = λ v low.
    let n : c.self.inside.graph.now.vertices ≡ c.args.self.now.roads.vertices = λ i. (c.self.view_is i).roads.vertices in
    c.loop-v.invariant.eliminated.closed v (omega (arith, low, n, c.loop-v-test.false, c.vertices-v-end.ensures.count))

use Rattle.path_factors.proofs.Words.{◌≡◌, ◌+◌, subst, arith, CoversArcsFrom, Improves}
use Rattle.path_factors.proofs.Connecting.{same_more}
use Rattle.path_factors.proofs.Loading.{loaded_to_more, loaded_to_all}
use Rattle.path_factors.proofs.weighing.Weighing.load.Goals as goal

pub loop-i-preserved : goal.loop-i-preserved
loop-i-preserved g c =
    let C = g.A.ComposingAlgebra.walks c.args.self.now.algebra in
    let G = c.loop-i.self.factor in
    let H = c.load_from.new.self.factor in
    let k = c.loop-i.i in
    let marks = c.args.marks.now in
    let alg = c.loop-i.invariant.same.algebra in
    let improves = subst (λ a. Improves (g.A.ComposingAlgebra.walks a) 0 G H) alg c.load_from.ensures.improves in
    let covers = subst (λ a. CoversArcsFrom (g.A.ComposingAlgebra.walks a) marks c.loop-i.self.roads G.places H (k + 1)) alg c.load_from.ensures.covers in
    let more = subst (λ r. CoversArcsFrom C marks r G.places H (k + 1)) c.loop-i.invariant.same.roads covers in
    record {
      same = same_more c.args.self.now c.loop-i.self c.load_from.new.self c.loop-i.invariant.same c.load_from.ensures.same;
      loaded = loaded_to_more C c.holds.ensures.composes.ordered marks c.args.self.now.roads c.args.self.now.factor G H k c.loop-i.invariant.loaded improves c.load_from.ensures.rest more;
    }

pub returns-clause-covers : goal.returns-clause-covers
returns-clause-covers g c =
    let n : c.self.inside.graph.now.vertices ≡ c.args.self.now.roads.vertices = λ i. (c.self.view_is i).roads.vertices in
    loaded_to_all (g.A.ComposingAlgebra.walks c.args.self.now.algebra) c.holds.ensures.composes.ordered c.args.marks.now c.args.self.now.roads c.holds.ensures.roads
    c.args.self.now.factor c.loop-i.self.factor c.loop-i.i c.loop-i.invariant.loaded (omega (arith, n, c.loop-i-test.false, c.vertices-i-end.ensures.count))

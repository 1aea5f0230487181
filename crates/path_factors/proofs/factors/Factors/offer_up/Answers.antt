use Rattle.path_factors.proofs.Words.{◌≡◌, ◌<◌, length, arith, row_of}
use Rattle.path_factors.proofs.Places.{leaving_inside}
use Rattle.path_factors.proofs.factors.Factors.offer_up.Goals as goal

pub offer-requires-after_bounds : goal.offer-requires-after_bounds
offer-requires-after_bounds g c κs within =
    let lt : c.loop-j.j < length (row_of c.self.inside.rows.leaving c.args.i) = omega (arith, c.loop-j-test.true, c.count-j-end.ensures.leaving) in
    let r = leaving_inside (g.A.PathAlgebra.meaning c.self.inside.algebra) (g.A.ComposingAlgebra.walks c.self.inside.algebra) c.self.inside.graph.value _ c.self.invariant.0.factor.links
    c.args.i (row_of c.self.inside.rows.leaving c.args.i) (λ i. row_of c.self.inside.rows.leaving c.args.i) c.loop-j.j c.riser-link.result lt c.riser-link.ensures in
    let n : c.self.inside.graph.value.vertices ≡ c.args.self.now.roads.vertices = λ i. (c.self.view_is i).roads.vertices in
    omega (arith, r.1, n, c.requires.labels, c.loop-j.invariant.count)

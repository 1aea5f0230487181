use Rattle.path_factors.proofs.Words.{◌≡◌, arith, ◌∙◌, common_steps}
use Rattle.path_factors.proofs.Places.{place_inside}
use Rattle.path_factors.proofs.factors.Factors.by_vertex.Goals as goal

pub label_at-requires-after_bounds : goal.label_at-requires-after_bounds
label_at-requires-after_bounds g c κs within =
    let A = g.A.PathAlgebra.meaning c.args.self.now.algebra in
    let places : c.self.inside.places.items ≡ c.args.self.now.factor.places = λ i. (c.self.view_is i).factor.places in
    let items : c.deref-place-items.result.now ≡ c.self.inside.places.items = grind (arith, common_steps) in
    let low = place_inside A c.args.self.now.roads c.args.self.now.factor c.holds.ensures.factor.ordering c.deref-place-items.result.now (items ∙ places)
    c.loop-place.place-index c.loop-place-test.true in
    omega (arith, low, c.requires)

use Rattle.path_factors.proofs.Words.{◌≡◌, ◌∙◌, Bool, List, length, replicate, true, arith, sym, subst, IsWholeBut, arc_of}
use Rattle.path_factors.proofs.Whole.{none_done}
use Rattle.path_factors.proofs.weighing.Weighing.weigh_all.Goals as goal

pub weigh-requires-clause-rest : goal.weigh-requires-clause-rest
weigh-requires-clause-rest g c κs within =
    let S = c.args.self.now in
    let A = g.A.PathAlgebra.meaning S.algebra in
    let C = g.A.ComposingAlgebra.walks S.algebra in
    let begun = c.holds.ensures.begun in
    let count : length c.self.inside.places.items ≡ S.roads.vertices = (λ i. length (c.self.view_is i).factor.places) ∙ begun.ordering.places_count in
    let n : c.len.result ≡ S.roads.vertices = omega (arith, count, c.len.ensures) in
    let marks : c.deref.result.now ≡ replicate c.len.result true =
    c.deref.ensures.value ∙ c.in_ok-marks.ensures.items_if_clones_equal (λ y is. is) in
    subst (λ (m : List Bool). IsWholeBut A C S.roads m S.factor) (sym marks)
    (none_done A C S.roads S.factor begun (λ a has. let ends = c.holds.ensures.roads.ends a has in (
      (begun.ordering.place (arc_of S.roads a).tail ends.0).0,
      (begun.ordering.place (arc_of S.roads a).head ends.1).0,
    )) (λ x y head. (c.holds.ensures.outline.are.rising x y head).1) c.len.result n)

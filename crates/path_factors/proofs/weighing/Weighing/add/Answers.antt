use Rattle.path_factors.proofs.Words.{◌≡◌, ◌∙◌, ◌⊎◌, inl, inr, ap, sym, subst, IsLinkUnder, IsWorthUnder, LeadsNoWorse, heads_in, place_of, vertex_at}
use Rattle.path_factors.proofs.weighing.Weighing.add.Goals as goal

pub connect-requires-clause-there : goal.connect-requires-clause-there
connect-requires-clause-there g c κs within = λ z at.
    let S = c.args.self.now in
    let A = g.A.PathAlgebra.meaning S.algebra in
    let C = g.A.ComposingAlgebra.walks S.algebra in
    let F = S.factor in
    let weight = c.args.road.weight in
    let ordering = c.holds.ensures.begun.ordering in
    let alg : c.self.inside.algebra ≡ S.algebra = λ i. (c.self.view_is i).algebra in
    let from = ap (vertex_at F) c.place-x.ensures.place ∙ (ordering.place c.args.tail c.requires.tail).1 in
    let to = ap (vertex_at F) c.place-y.ensures.place ∙ (ordering.place c.args.road.head c.requires.head).1 in
    let here : (z ≡ place_of F c.args.tail) ⊎ (z ≡ place_of F c.args.road.head) = elim at [
      | inl e ↦ inl (e ∙ c.place-x.ensures.place)
      | inr e ↦ inr (e ∙ c.place-y.ensures.place)
    ] in
    subst (λ w. IsLinkUnder A C S.roads F z c.place-x.result c.place-y.result w) (sym (c.of_arc-there.ensures ∙ ap (λ a. (g.A.ComposingAlgebra.walks a).of_arc weight) alg))
    (subst (λ u. IsWorthUnder A C S.roads (heads_in F.leaving) F.places z u (vertex_at F c.place-y.result) (C.of_arc weight)) (sym from)
    (subst (λ u. IsWorthUnder A C S.roads (heads_in F.leaving) F.places z c.args.tail u (C.of_arc weight)) (sym to) (c.requires.worth z here)))

pub returns-then-marks-min-clause-leads : goal.returns-then-marks-min-clause-leads
returns-then-marks-min-clause-leads g c = λ other on.
    let S = c.args.self.now in
    let C = g.A.ComposingAlgebra.walks S.algebra in
    let F = S.factor in
    let H = c.connect-then-marks-min.new.self.factor in
    let ordering = c.holds.ensures.begun.ordering in
    let alg : c.self.inside.algebra ≡ S.algebra = λ i. (c.self.view_is i).algebra in
    let from = ap (vertex_at F) c.place-x.ensures.place ∙ (ordering.place c.args.tail c.requires.tail).1 in
    let to = ap (vertex_at F) c.place-y.ensures.place ∙ (ordering.place c.args.road.head c.requires.head).1 in
    let leads = c.connect-then-marks-min.ensures.there (λ e. other (sym from ∙ ap (vertex_at F) e ∙ to)) in
    subst (λ w. LeadsNoWorse C H (place_of F c.args.tail) (place_of F c.args.road.head) w) (c.of_arc-there.ensures ∙ ap (λ a. (g.A.ComposingAlgebra.walks a).of_arc c.args.road.weight) alg)
    (subst (λ p. LeadsNoWorse C H p (place_of F c.args.road.head) c.of_arc-there.result) c.place-x.ensures.place
    (subst (λ p. LeadsNoWorse C H c.place-x.result p c.of_arc-there.result) c.place-y.ensures.place leads))

use Rattle.path_factors.proofs.Words.{◌≡◌, ◌∙◌, ◌+◌, ◌<◌, ◌∷◌, None, Option, length, drop, ap, arith, sym, applied, better_label, row_of, at, best_along}
use Rattle.std.proofs.lemmas.List.{drop_more, get_or_default}
use Rattle.path_factors.proofs.Places.{entering_inside}
use Rattle.path_factors.proofs.factors.Factors.best_down.Goals as goal

pub bounds-labels-link : goal.bounds-labels-link
bounds-labels-link g c =
    let lt : c.loop-j.j < length (row_of c.self.inside.rows.entering c.args.i) = omega (arith, c.loop-j-test.true, c.count-j-end.ensures.entering) in
    let r = entering_inside (g.A.PathAlgebra.meaning c.self.inside.algebra) (g.A.ComposingAlgebra.walks c.self.inside.algebra) c.self.inside.graph.value _ c.self.invariant.0.factor.links
    c.args.i (row_of c.self.inside.rows.entering c.args.i) (λ i. row_of c.self.inside.rows.entering c.args.i) c.loop-j.j c.faller-link.result lt c.faller-link.ensures in
    let n : c.self.inside.graph.value.vertices ≡ c.args.self.now.roads.vertices = λ i. (c.self.view_is i).roads.vertices in
    omega (arith, r.1, n, c.requires.labels)

pub offset_bounds-labels-link : goal.offset_bounds-labels-link
offset_bounds-labels-link g c = omega (arith, bounds-labels-link g c)

pub loop-j-preserved : goal.loop-j-preserved
loop-j-preserved g c =
    let A = g.A.PathAlgebra.meaning c.self.inside.algebra in
    let C = g.A.ComposingAlgebra.walks c.self.inside.algebra in
    let labels = c.args.labels.now in
    let row = row_of c.self.inside.rows.entering c.args.i in
    let j = c.loop-j.j in
    let k = c.faller-link.result in
    let lt : j < length row = omega (arith, c.loop-j-test.true, c.count-j-end.ensures.entering) in
    let more : drop j row ≡ k ∷ drop (j + 1) row = drop_more row j k lt ∙ ap (λ r. r ∷ drop (j + 1) row) (sym c.faller-link.ensures) in
    let r = entering_inside A C c.self.inside.graph.value _ c.self.invariant.0.factor.links c.args.i row (λ i. row) j k lt c.faller-link.ensures in
    let n : c.self.inside.graph.value.vertices ≡ c.args.self.now.roads.vertices = λ i. (c.self.view_is i).roads.vertices in
    let other : c.index-labels-link.result ≡ at labels k.place =
    c.index-labels-link.is ∙ get_or_default labels k.place c.index-labels-link.result None (omega (arith, r.1, n, c.requires.labels)) in
    let step = c.better_after-best.ensures ∙ ap (λ (o : Option g.row.A-Value.Denot). better_label A.no_worse c.loop-j.best (applied C o k.walk)) other in
    ap (λ (l : Option g.row.A-Value.Denot). best_along A C labels l (drop (j + 1) row)) step ∙ sym (ap (best_along A C labels c.loop-j.best) more) ∙ c.loop-j.invariant

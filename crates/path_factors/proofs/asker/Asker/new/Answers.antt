use Rattle.path_factors.proofs.Words.{◌≡◌, [], None, false, length, replicate, arith, sym, subst, common_steps}
use Rattle.path_factors.proofs.Asking.{Holds, asking_none}
use Rattle.path_factors.proofs.asker.Asker.new.Goals as goal

pub invariant_of-result : goal.invariant_of-result
invariant_of-result g c =
    let f = c.args.factors.now in
    let holds = c.holds.ensures in
    let places : length c.factors.inside.places.items ≡ length f.factor.places = λ i. length (c.factors.view_is i).factor.places in
    let n : c.len-n.result ≡ f.roads.vertices = omega (arith, places, holds.factor.ordering.places_count, c.len-n.ensures) in
    let labels : c.in_ok-labels.labels.items ≡ replicate c.len-n.result None = grind (arith, common_steps) in
    let known : c.in_ok-known.known.items ≡ replicate c.len-n.result false = grind (arith, common_steps) in
    let asked : c.in_ok-asked.asked.items ≡ [] = grind (arith, common_steps) in
    subst (λ s. Holds g.A.PathAlgebra.meaning g.A.ComposingAlgebra.walks s [] c.in_ok-labels.labels.items c.in_ok-known.known.items c.in_ok-asked.asked.items) (sym c.of.ensures)
    (rw (labels, known, asked, n) (asking_none (g.A.PathAlgebra.meaning f.algebra) holds.lawful (g.A.ComposingAlgebra.walks f.algebra) holds.composes f.roads holds.roads f.factor holds.factor f.heads holds.outline.are))

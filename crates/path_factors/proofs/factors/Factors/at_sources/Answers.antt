use Rattle.path_factors.proofs.Words.{◌≡◌, ℕ, ◌+◌, ◌∙◌, arith, List, Option, Some, None, take, sym, ap, length, replicate, ◌++◌, ◌∷◌, [], take_more, length-replicate, common_steps, at}
use Rattle.path_factors.proofs.Places.{at_none, origins_none, origins_more}
use Rattle.path_factors.proofs.factors.Factors.at_sources.Goals as goal

pub loop-s-init : goal.loop-s-init
loop-s-init g c =
    let ordering = c.holds.ensures.factor.ordering in
    let places : length c.self.inside.places.items ≡ length c.args.self.now.factor.places = λ i. length (c.self.view_is i).factor.places in
    let made : c.in_ok-labels.labels.items ≡ replicate c.len.result None = grind (arith, common_steps) in
    let n : c.len.result ≡ c.args.self.now.roads.vertices = omega (arith, places, ordering.places_count, c.len.ensures) in
    origins_none (g.A.PathAlgebra.meaning c.args.self.now.algebra) c.args.self.now.roads c.args.self.now.factor ordering c.in_ok-labels.labels.items
    (ap length made ∙ length-replicate c.len.result None ∙ n)
    (λ i. ap (λ (l : List (Option g.row.A-Value.Denot)). at l i) made ∙ at_none c.len.result i)

pub loop-s-preserved : goal.loop-s-preserved
loop-s-preserved g c =
    let A = g.A.PathAlgebra.meaning c.args.self.now.algebra in
    let F = c.args.self.now.factor in
    let s = c.s-item.result in
    let i = c.loop-s.s-index in
    let sources = c.args.sources.now in
    let in_s = c.requires i s c.loop-s-test.true in
    let more : take (i + 1) sources ≡ take i sources ++ s ∷ [] =
    take_more sources i s c.loop-s-test.true ∙ ap (λ (t : ℕ). take i sources ++ t ∷ []) (sym c.s-item.is) in
    let alg : c.self.inside.algebra ≡ c.args.self.now.algebra = λ j. (c.self.view_is j).algebra in
    let origin : c.origin.result ≡ Some A.origin = c.origin.ensures ∙ ap (λ a. Some (g.A.PathAlgebra.meaning a).origin) alg in
    rw (more, c.place.ensures.place, origin)
    (origins_more A c.args.self.now.roads F c.holds.ensures.factor.ordering (take i sources) s c.loop-s.labels.items (rw (← c.s-item.is) at in_s) c.loop-s.invariant)

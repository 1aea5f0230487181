use Rattle.path_factors.proofs.Words.{◌≡◌, ◌∙◌, ℕ, [], ◌∷◌, Some, None, set, get_or-set_other, ap, subst, All-nil, All-cons, HasVertex, place_of, AreOnlyUp}
use Rattle.path_factors.proofs.Places.{origins_none, origins_more}
use Rattle.path_factors.proofs.Sweeps.{forward_starts}
use Rattle.path_factors.proofs.factors.Factors.start.Goals as goal

pub returns-clause-up : goal.returns-clause-up
returns-clause-up g c =
    subst (λ (s : ℕ). AreOnlyUp c.args.self.now.heads c.args.self.now.roads.vertices s c.climb.new.labels) c.place-s.ensures.place c.climb.ensures.up

pub climb-requires-clause-alone : goal.climb-requires-clause-alone
climb-requires-clause-alone g c κs within = λ j other.
    get_or-set_other c.args.labels.now c.place-s.result j _ None other ∙ c.requires.none j

pub returns-clause-forward : goal.returns-clause-forward
returns-clause-forward g c =
    let A = g.A.PathAlgebra.meaning c.args.self.now.algebra in
    let C = g.A.ComposingAlgebra.walks c.args.self.now.algebra in
    let G = c.args.self.now.roads in
    let F = c.args.self.now.factor in
    let labels = c.args.labels.now in
    let holds = c.holds.ensures in
    let s = c.args.source in
    let first = origins_none A G F holds.factor.ordering labels c.requires.count c.requires.none in
    let origins = origins_more A G F holds.factor.ordering [] s labels c.requires.source first in
    let inside = All-cons (HasVertex G) s [] c.requires.source (All-nil (HasVertex G)) in
    let start = forward_starts A holds.lawful C holds.composes G holds.roads F holds.factor (s ∷ []) (set labels (place_of F s) (Some A.origin)) inside origins in
    let alg : c.self.inside.algebra ≡ c.args.self.now.algebra = λ i. (c.self.view_is i).algebra in
    let origin : c.origin.result ≡ Some A.origin = c.origin.ensures ∙ ap (λ a. Some (g.A.PathAlgebra.meaning a).origin) alg in
    c.climb.ensures.forward (s ∷ []) (rw (c.place-s.ensures.place, origin) start)

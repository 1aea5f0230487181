use Rattle.factor_routes.proofs.Words.{ℕ, Option, Some, None, refl, subst, IsBestLabel, numbers_of}
use Rattle.factor_routes.proofs.road_factors.RoadFactors.best_value.Goals as goal

pub returns-in-Some-clause-best : goal.returns-in-Some-clause-best
returns-in-Some-clause-best g c =
    let f = c.args.self.now in
    let sources = c.args.asker.now.sources in
    let carry = c.requires.carried f.roads sources f.algebra.bits c.holds.ensures.roads c.requires.sources c.holds.ensures.fits in
    let best = subst (λ (l : Option ℕ). IsBestLabel (numbers_of f) f.roads sources c.args.v l) c.in-Some.is
    (c.in_ok-number.ensures.best sources (c.requires.same, refl)) in
    rw c.value_in.ensures (carry.labels c.args.v (Some c.in-Some.number) best)

pub returns-in-None-clause-best : goal.returns-in-None-clause-best
returns-in-None-clause-best g c =
    let f = c.args.self.now in
    let sources = c.args.asker.now.sources in
    let carry = c.requires.carried f.roads sources f.algebra.bits c.holds.ensures.roads c.requires.sources c.holds.ensures.fits in
    carry.labels c.args.v None (subst (λ (l : Option ℕ). IsBestLabel (numbers_of f) f.roads sources c.args.v l) c.in-None.is
    (c.in_ok-number.ensures.best sources (c.requires.same, refl)))

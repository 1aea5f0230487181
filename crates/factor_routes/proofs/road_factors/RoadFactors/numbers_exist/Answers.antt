use Rattle.factor_routes.proofs.Words.{◌≡◌, ℕ, List, Option, sym, ◌∙◌, ap, subst, cost_of, counted, AreBest, CountedSums, FactorState}
use Rattle.factor_routes.proofs.road_factors.RoadFactors.numbers_exist.Goals as goal

pub returns : goal.returns
returns c = λ sources inside.
    let G = c.args.self.now.roads in
    let same : c.self.inside.sums ≡ c.args.self.now.algebra = sym c.self.invariant.0 ∙ ap (λ (f : FactorState CountedSums ℕ). f.algebra) c.self.view_is in
    subst (λ (s : CountedSums). (numbers : List (Option ℕ)) × AreBest (counted (cost_of s.cost) s.bits) G sources numbers) same
    (c.best_values_exist.ensures G c.holds.ensures.roads sources inside)

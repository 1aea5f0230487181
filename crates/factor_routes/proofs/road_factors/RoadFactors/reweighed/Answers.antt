use Rattle.factor_routes.proofs.Words.{◌≡◌, ◌∙◌, ℕ, ap, sym, subst, GraphData, cost_of, CountsFit, Cost, CountedSums, FactorState}
use Rattle.factor_routes.proofs.road_factors.RoadFactors.reweighed.Goals as goal

pub returns-in_default-clause-cause : goal.returns-in_default-clause-cause
returns-in_default-clause-cause c =
    let s = c.self.inside in
    let cost : s.sums.cost ≡ c.args.self.now.algebra.cost =
    sym (ap (λ (a : CountedSums). a.cost) c.self.invariant.0) ∙ ap (λ (f : FactorState CountedSums ℕ). f.algebra.cost) c.self.view_is in
    subst (λ (b : Cost). (k : ℕ) → CountsFit c.args.graph.now (cost_of b) k → ⊥) cost
    (subst (λ (g : GraphData). (k : ℕ) → CountsFit g (cost_of s.sums.cost) k → ⊥) c.requires c.in_default.ensures.none)

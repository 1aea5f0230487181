use Rattle.factor_routes.proofs.Words.{ℕ, subst, GraphData, cost_of, CountsFit}
use Rattle.factor_routes.proofs.road_factors.RoadFactors.by_order.Goals as goal

pub returns-in_default-clause-heavy : goal.returns-in_default-clause-heavy
returns-in_default-clause-heavy c = λ _.
    subst (λ (g : GraphData). (k : ℕ) → CountsFit g (cost_of c.args.cost) k → ⊥) c.requires.same c.in_default.ensures.none

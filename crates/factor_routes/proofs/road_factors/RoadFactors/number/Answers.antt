use Rattle.factor_routes.proofs.Words.{ℕ, List, IfOk, subst, IsBestLabel, CountedSums, FactorState, numbers_of}
use Rattle.factor_routes.proofs.road_factors.RoadFactors.number.Goals as goal

pub returns-clause-best : goal.returns-clause-best
returns-clause-best g c =
    subst
    (λ (f : FactorState CountedSums ℕ). IfOk c.number.result (λ number. (sources : List ℕ) → g.N.BestNumbers.are_best c.args.numbers.now f sources →
    IsBestLabel (numbers_of f) f.roads sources c.args.v number))
    c.self.view_is c.number.ensures.best

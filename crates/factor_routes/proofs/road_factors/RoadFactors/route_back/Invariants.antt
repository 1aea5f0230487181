use Rattle.factor_routes.proofs.Words.{◌≡◌, ℕ, ◌≤◌, Option, Some, HasVertex, cost_of, IsBest, AreBestNumbers, numbers_of}
use Rattle.factor_routes.proofs.Climbing.{Climbed}
use Rattle.factor_routes.proofs.road_factors.RoadFactors.route_back.Given as goal

abbrev pub invariant-loop-number : goal.invariant-loop-number
invariant-loop-number l =
    HasVertex l.self.roads l.at
    × (l.asker.factors ≡ l.self)
    × (l.asker.sources ≡ l.fn.asker.sources)
    × IsBest (numbers_of l.self) l.self.roads l.fn.asker.sources l.at l.number
    × ((n : ℕ) → IsBest (numbers_of l.self) l.self.roads l.fn.asker.sources l.after n → l.number ≤ n)
    × ((number : ℕ → Option ℕ) → AreBestNumbers (numbers_of l.self) l.self.roads l.fn.asker.sources number → number l.fn.end.0 ≡ Some l.fn.end.1 →
    Climbed l.self.roads (cost_of l.self.algebra.cost) l.self.algebra.bits number l.fn.end.0 l.at l.number l.list.items)

abbrev pub decreases-loop-number : goal.decreases-loop-number
decreases-loop-number l = l.number

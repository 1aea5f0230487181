use Rattle.factor_routes.proofs.Words.{◌≡◌, ℕ, ◌<◌, List, Option, IfSome, None, drop, HasVertex, AreBestInto, cost_of, numbers_of}
use Rattle.factor_routes.proofs.Tails.{least_from}
use Rattle.factor_routes.proofs.road_factors.RoadFactors.least_tail.Given as goal

abbrev pub invariant-loop-road : goal.invariant-loop-road
invariant-loop-road g l =
    ((sources : List ℕ) → g.N.BestNumbers.are_best l.fn.numbers l.self sources → g.N.BestNumbers.are_best l.numbers l.self sources)
    × IfSome l.least (λ tail. HasVertex l.self.roads tail.0 × (tail.1 < l.y))
    × ((sources : List ℕ) (number : ℕ → Option ℕ) → g.N.BestNumbers.are_best l.fn.numbers l.self sources →
    AreBestInto (numbers_of l.self) l.self.roads sources number l.fn.v →
    least_from (cost_of l.self.algebra.cost) l.self.algebra.bits l.y number l.least (drop l.road-index l.road-items)
    ≡ least_from (cost_of l.self.algebra.cost) l.self.algebra.bits l.y number None l.road-items)

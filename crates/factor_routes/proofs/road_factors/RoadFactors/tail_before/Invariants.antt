use Rattle.factor_routes.proofs.Words.{◌≡◌, ℕ, ◌<◌, Option, IfSome, None, drop, HasArc, HasVertex, arc_of, AreBestInto, cost_of, numbers_of}
use Rattle.factor_routes.proofs.Tails.{least_from, with_held}
use Rattle.factor_routes.proofs.road_factors.RoadFactors.tail_before.Given as goal

abbrev pub invariant-loop-road : goal.invariant-loop-road
invariant-loop-road l =
    (l.asker.factors ≡ l.self)
    × (l.asker.sources ≡ l.fn.asker.sources)
    × IfSome l.least (λ tail. HasVertex l.self.roads tail.0 × (tail.1 < l.fn.at.1))
    × IfSome l.held (λ road. (a : ℕ) × HasArc l.self.roads a × ((arc_of l.self.roads a).head ≡ l.fn.at.0) × ((arc_of l.self.roads a).tail ≡ road.head))
    × ((number : ℕ → Option ℕ) → AreBestInto (numbers_of l.self) l.self.roads l.fn.asker.sources number l.fn.at.0 →
    least_from (cost_of l.self.algebra.cost) l.self.algebra.bits l.fn.at.1 number l.least (with_held l.held (drop l.road-index l.road-items))
    ≡ least_from (cost_of l.self.algebra.cost) l.self.algebra.bits l.fn.at.1 number None l.road-items)

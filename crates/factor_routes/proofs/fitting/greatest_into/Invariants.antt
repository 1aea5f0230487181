use Rattle.factor_routes.proofs.Words.{◌≡◌, drop, cost_of}
use Rattle.factor_routes.proofs.Greatest.{greatest_of}
use Rattle.factor_routes.proofs.fitting.greatest_into.Given as goal

abbrev pub invariant-loop-road : goal.invariant-loop-road
invariant-loop-road l =
    greatest_of (cost_of l.cost) l.greatest (drop l.road-index l.road-items) ≡ greatest_of (cost_of l.cost) 0 l.road-items

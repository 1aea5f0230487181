use Rattle.std.proofs.Common.{arith}
use Rattle.factor_routes.proofs.Tails.{added_is_small}
use Rattle.factor_routes.proofs.road_factors.RoadFactors.added.Goals as goal

pub returns-clause-low : goal.returns-clause-low
returns-clause-low c =
    let sums = c.self.inside.sums in
    omega (arith, added_is_small sums.cost sums.bits c.args.w sums.fits c.ranges.w.fits, c.added.ensures)

use Rattle.factor_routes.proofs.Words.{◌≡◌, ◌∙◌, arith, common_steps, cost_of}
use Rattle.factor_routes.proofs.Greatest.{greatest_of, row_is_greatest}
use Rattle.factor_routes.proofs.fitting.greatest_into.Goals as goal

pub returns : goal.returns
returns c =
    let row = c.roads_into-road-items in
    let all : c.loop-road.greatest ≡ greatest_of (cost_of c.args.cost) 0 row.result.now = grind (arith, common_steps) in
    all ∙ row_is_greatest (cost_of c.args.cost) c.args.by_head.now c.args.v row.result.now row.ensures

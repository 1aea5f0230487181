use Rattle.std.proofs.Common.{rules, ◌≡◌, ◌++◌, ◌∷◌, [], ap, ◌∙◌}
use Rattle.engine_trials.proofs.Words.{SetupData, setup_of, opened_part, opened_parts}
use Rattle.station.proofs.Opening.{opened_next}
use Rattle.engine_trials.proofs.parts.parts_of.Goals as goal

pub loop-shard-preserved : goal.loop-shard-preserved
loop-shard-preserved g c =
    let t : SetupData g.row.A.Denot = setup_of c.args.algebra c.args.ground.now.graph 1 c.args.ground.now.counted.plan c.args.order in
    let p : c.expect.result ≡ opened_part (g.A.PathAlgebra.meaning c.args.algebra) t c.loop-shard.shard = search rules in
    let pushed : c.push.new.self.items ≡ c.loop-shard.parts.items ++ c.expect.result ∷ [] = search rules in
    opened_next (g.A.PathAlgebra.meaning c.args.algebra) t c.loop-shard.shard c.loop-shard.parts.items c.push.new.self.items c.expect.result c.loop-shard.invariant p pushed

pub returns : goal.returns
returns g c =
    let t : SetupData g.row.A.Denot = setup_of c.args.algebra c.args.ground.now.graph 1 c.args.ground.now.counted.plan c.args.order in
    let n : c.loop-shard.shard ≡ c.args.ground.now.counted.plan.shards = search rules in
    (t, c.loop-shard.invariant ∙ ap (opened_parts (g.A.PathAlgebra.meaning c.args.algebra) t 0) n, (search rules), (search rules))

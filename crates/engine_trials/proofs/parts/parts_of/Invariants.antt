use Rattle.engine_trials.proofs.Words.{◌≡◌, opened_parts, setup_of}
use Rattle.engine_trials.proofs.parts.parts_of.Given as goal

abbrev pub invariant-loop-shard : goal.invariant-loop-shard
invariant-loop-shard g l = l.parts.items ≡ opened_parts (g.A.PathAlgebra.meaning l.algebra)
    (setup_of l.algebra l.ground.graph 1 l.ground.counted.plan l.order) 0 l.shard

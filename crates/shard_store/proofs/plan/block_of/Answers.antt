use Rattle.std.proofs.lemmas.Grind.{common_steps}
use Rattle.shard_store.proofs.Blocks.{block_below}
use Rattle.std.proofs.Common.{rules, arith}
use Rattle.shard_store.proofs.plan.block_of.Goals as goal

pub returns-clause-within : goal.returns-clause-within
returns-clause-within c = let b = block_below c.args.i c.args.s c.args.n c.requires.inside c.requires.shards.0 in let i = c.from.ensures in
    let s = c.from-2.ensures in let n = c.from-3.ensures in search rules

pub returns-clause-block : goal.returns-clause-block
returns-clause-block c = grind (arith, common_steps)

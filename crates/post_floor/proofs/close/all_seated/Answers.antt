use Rattle.post_floor.proofs.Words.{rules, arith, common_steps}
use Rattle.post_floor.proofs.close.all_seated.Goals as goal

pub returns-then-not-is_seated : goal.returns-then-not-is_seated
returns-then-not-is_seated g c = ((λ t. absurd cc), λ a. let h = a c.loop-shard.shard c.loop-shard-test.true in let r = c.is_seated.ensures.1 h in search rules)

pub loop-shard-init : goal.loop-shard-init
loop-shard-init g c = grind (arith, common_steps)

use Rattle.std.proofs.Common.{◌≡◌, ◌≤◌, arith, ap, length}
use Rattle.shard_store.proofs.ShardLayouts.{count_out_zero, listed_from}
use Rattle.shard_store.proofs.layout.ShardLayout.count_out.Goals as goal

pub returns-then-v-eq0 : goal.returns-then-v-eq0
returns-then-v-eq0 c = let z : c.args.v ≡ 0 = omega arith in count_out_zero _ c.args.self.now c.args.v c.self.view_is c.self.invariant z

pub returns-else-v-eq0 : goal.returns-else-v-eq0
returns-else-v-eq0 c = let l : 1 ≤ c.args.v = omega arith in ap length (listed_from _ c.args.self.now c.args.v c.out.result.now c.self.view_is l c.out.ensures)

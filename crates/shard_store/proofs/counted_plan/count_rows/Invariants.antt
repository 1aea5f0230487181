use Rattle.shard_store.proofs.Words.{◌≡◌, ◌<◌, ℕ, suc, length, sum_below}
use Rattle.std.proofs.Common.{◌*◌}
use Rattle.shard_store.specs.Crossings.{at_shards}
use Rattle.shard_store.proofs.Crossings.{row_crossings}
use Rattle.shard_store.proofs.counted_plan.count_rows.Given as goal

abbrev pub invariant-loop-i : goal.invariant-loop-i
invariant-loop-i l = record {
  long : length l.counts ≡ 64 * l.plan.shards;
  each : (s t : ℕ) → s < l.plan.shards → t < l.plan.shards → at_shards l.counts s t ≡ sum_below (λ i. row_crossings l.graph l.plan s t (suc i)) l.i;
}

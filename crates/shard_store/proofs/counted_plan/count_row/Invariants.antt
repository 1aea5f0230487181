use Rattle.shard_store.proofs.Words.{◌≡◌, ◌+◌, ◌<◌, ℕ, length, take, total, shard_in}
use Rattle.shard_store.specs.Crossings.{at_shards, joined}
use Rattle.shard_store.proofs.counted_plan.count_row.Given as goal

abbrev pub invariant-loop-road : goal.invariant-loop-road
invariant-loop-road l = record {
  long : length l.counts ≡ length l.fn.counts;
  each : (s t : ℕ) → s < l.plan.shards → t < l.plan.shards → at_shards l.counts s t
      ≡ at_shards l.fn.counts s t + total (λ r. joined s t l.fn.shard (shard_in l.plan r.head)) (take l.road-index l.row);
}

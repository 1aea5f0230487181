use Rattle.std.proofs.Common.{◌≢◌, ℕ, ◌-◌, ◌<◌, length, get_or}
use Rattle.elimination_order.proofs.order_builder.OrderBuilder.first_free.Given as goal

abbrev pub invariant-loop-place : goal.invariant-loop-place
invariant-loop-place l = record {
  inside : l.place < length l.self.vertices.items;
  taken : (i : ℕ) → i < l.place → get_or l.self.vertices.items i 0 ≢ 0;
}

abbrev pub decreases-loop-place : goal.decreases-loop-place
decreases-loop-place l = length l.self.vertices.items - l.place

use Rattle.std.proofs.Common.{◌≡◌, ◌≢◌, ℕ, ◌<◌, length, get_or}
use Rattle.elimination_order.proofs.order_builder.order_by.Given as goal

abbrev pub invariant-loop-i : goal.invariant-loop-i
invariant-loop-i l = record {
  vertices : length l.builder.vertices.items ≡ l.n;
  count : l.builder.count ≡ l.i;
  taken : (j : ℕ) → j < l.first → get_or l.builder.vertices.items j 0 ≢ 0;
}

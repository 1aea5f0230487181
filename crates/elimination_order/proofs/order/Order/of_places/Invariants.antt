use Rattle.std.proofs.Common.{◌≡◌, length}
use Rattle.elimination_order.proofs.Placing.{AreAmong, AreSameTo}
use Rattle.elimination_order.proofs.order.Order.of_places.Given as goal

abbrev pub invariant-loop-place : goal.invariant-loop-place
invariant-loop-place l = record {
  count : l.builder.count ≡ l.place-index;
  long : length l.builder.vertices.items ≡ length l.places;
  same : AreSameTo l.place-index l.places l.builder.places.items;
  among : AreAmong l.place-index l.places l.builder.vertices.items;
}

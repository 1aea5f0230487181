use Rattle.std.proofs.Common.{inl, inr, refl}
use Rattle.program.proofs.ordering.order_graph.Goals as goal

pub returns-in-Some : goal.returns-in-Some
returns-in-Some g c = inl (c.in-Some.found, rw c.in-Some.is at c.in-Ok.ensures.on.order, rw (c.into_order.ensures, c.in-Some.is) at c.write_places.ensures)

pub returns-in-None : goal.returns-in-None
returns-in-None g c = inr (refl, inl (c.fault_of_run-in-None.ensures, c.in-Ok.ordered.counts, rw c.in-None.is at c.in-Ok.ensures.dense))

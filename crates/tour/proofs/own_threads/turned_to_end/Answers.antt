use Rattle.std.proofs.Common.{rules}
use Rattle.tour.proofs.own_threads.turned_to_end.Goals as goal

pub peek-requires-after_bounds : goal.peek-requires-after_bounds
peek-requires-after_bounds g c κs within = c.if-holds.ensures.0 (search rules)

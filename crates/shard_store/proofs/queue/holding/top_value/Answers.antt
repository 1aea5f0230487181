use Rattle.std.specs.BinaryHeap.{heap_items}
use Rattle.shard_store.proofs.Ranking.{top_is_best}
use Rattle.shard_store.proofs.Holding.{top_waits}
use Rattle.shard_store.proofs.queue.holding.top_value.Goals as goal

pub returns-in-Some : goal.returns-in-Some
returns-in-Some g c =
    let m = c.in-Some.top.now in let ms = heap_items c.args.ranked.now in
    top_waits g.A.PathAlgebra.order m ms c.in-Some.ensures.item.3.0 c.in-Some.ensures.lookup (top_is_best g.A.PathAlgebra.order m ms (c.in-Some.ensures.greatest c.requires))

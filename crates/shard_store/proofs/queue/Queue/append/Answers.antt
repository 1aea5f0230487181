use Rattle.std.proofs.Common.{ap}
use Rattle.shard_store.proofs.Totals.{append_room}
use Rattle.shard_store.proofs.queue.Queue.append.Goals as goal

pub push-requires-after_bounds : goal.push-requires-after_bounds
push-requires-after_bounds g c κs within = append_room c.loop-item.self.items c.loop-item.other.items c.args.self.now.items c.args.other.now.items c.in-Some.item
    c.loop-item.self.room.capacity c.args.self.now.room.capacity c.loop-item.invariant.joined (ap (λ r. r.capacity) c.loop-item.invariant.own) c.requires c.in-Some.ensures.value

use Rattle.shard_part.proofs.Words.{◌≡◌, ◌-◌, length, map, IsPermutation, rows_of, setup_of, RepInvariant, abstraction}
use Rattle.shard_part.proofs.state.PartState.pop_best.Given as goal

-- the items stand in another order, and nothing else has changed
abbrev pub invariant-loop-item : goal.invariant-loop-item
invariant-loop-item g l =
    let s = l.self-inside in
    let p = abstraction (setup_of s.algebra s.graph.now s.source s.plan.now s.order) s.shard (rows_of s.tables) s.queue.items
    (map (λ b. b.items) s.outs.items) s.sent s.delivered s.signalled s.accepted in
    record {
      same : p ≡ record l.fn.self { queue = s.queue.items };
      items : IsPermutation l.fn.self.queue s.queue.items;
      stored : RepInvariant p (rows_of s.tables) s.queue.room (map (λ b. b.capacity) s.outs.items);
    }

abbrev pub decreases-loop-item : goal.decreases-loop-item
decreases-loop-item g l = length l.self-inside.queue.items - l.self-inside.queue.ranked

use Rattle.shard_store.proofs.Words.{◌≤◌, ◌-◌, ap, ◌∙◌, drop, map, length, arith, heap_items, slice_get, length-map, ranked_item}
use Rattle.shard_store.proofs.Ranking.{newest_is}
use Rattle.shard_store.proofs.queue.Queue.newest.Goals as goal

pub returns-clause-newest : goal.returns-clause-newest
returns-clause-newest g c =
    let ranked : c.args.self.now.ranked ≤ length (map ranked_item (heap_items c.self.inside.ranked)) =
    (let e = ap (λ q. q.ranked) c.self.view_is in let m = length-map (heap_items c.self.inside.ranked) ranked_item in omega (arith, e, m)) in
    newest_is (map ranked_item (heap_items c.self.inside.ranked)) (drop c.self.inside.taken c.self.inside.front.items) c.self.inside.back.items c.args.self.now.items c.args.self.now.ranked c.args.self.now.room
    c.copied.result (ap (λ q. q.items) c.self.view_is) ranked
    (c.copied.ensures ∙ c.last.ensures.value ∙ ap (λ xs. slice_get xs (length xs - 1)) c.deref.ensures.value)

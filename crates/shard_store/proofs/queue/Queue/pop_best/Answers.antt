use Rattle.shard_store.proofs.Words.{◌++◌, ap, sym, ◌∙◌, drop, map, heap_items, length-map, ranked_item}
use Rattle.shard_store.proofs.Ranking.{best_leaves, best_alone, rest_empty}
use Rattle.shard_store.proofs.queue.Queue.pop_best.Goals as goal

pub returns-clause-left : goal.returns-clause-left
returns-clause-left g c = best_leaves ranked_item (heap_items c.self.inside.ranked) (heap_items c.pop.new.self) (drop c.self.inside.taken c.self.inside.front.items ++ c.self.inside.back.items) c.args.self.now.items c.in_ok-best.best
    (ap (λ q. q.items) c.self.view_is) c.in_ok-best.ensures.permutation

pub returns-clause-best : goal.returns-clause-best
returns-clause-best g c = best_alone g.A.PathAlgebra.order c.in_ok-best.best (heap_items c.pop.new.self) (drop c.self.inside.taken c.self.inside.front.items ++ c.self.inside.back.items)
    (c.in_ok-best.ensures.below_top c.self.invariant.heap)
    (rest_empty (map ranked_item (heap_items c.self.inside.ranked)) (drop c.self.inside.taken c.self.inside.front.items ++ c.self.inside.back.items) c.args.self.now.items c.args.self.now.ranked
    (ap (λ q. q.items) c.self.view_is) (ap (λ q. q.ranked) (sym c.self.view_is) ∙ sym (length-map (heap_items c.self.inside.ranked) ranked_item)) c.requires.ranked)

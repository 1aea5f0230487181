use Rattle.shard_store.proofs.Words.{◌++◌, ap, sym, subst, drop, map, heap_items, ranked_item, IsWorseMessage, IsHeldBy}
use Rattle.shard_store.proofs.Holding.{all_first, all_second}
use Rattle.shard_store.proofs.queue.Queue.is_held.Goals as goal

pub returns-then-is_top_worse-clause-all : goal.returns-then-is_top_worse-clause-all
returns-then-is_top_worse-clause-all g c = λ _ h.
    let i = c.self.inside in let P = IsWorseMessage g.A.PathAlgebra.order c.args.limit in
    let all = subst (IsHeldBy g.A.PathAlgebra.order c.args.limit) (sym (ap (λ q. q.items) c.self.view_is)) h in
    c.are_worse.ensures.all (subst (IsHeldBy g.A.PathAlgebra.order c.args.limit) (sym c.deref.ensures.value)
    (all_second P (drop i.taken i.front.items) i.back.items (all_second P (map ranked_item (heap_items i.ranked)) (drop i.taken i.front.items ++ i.back.items) all)))

pub returns-else-is_top_worse-clause-all : goal.returns-else-is_top_worse-clause-all
returns-else-is_top_worse-clause-all g c = λ _ h.
    let i = c.self.inside in
    let all = subst (IsHeldBy g.A.PathAlgebra.order c.args.limit) (sym (ap (λ q. q.items) c.self.view_is)) h in
    c.is_top_worse.ensures.all (all_first (IsWorseMessage g.A.PathAlgebra.order c.args.limit) (map ranked_item (heap_items i.ranked)) (drop i.taken i.front.items ++ i.back.items) all)

use Rattle.shard_store.proofs.Words.{◌++◌, drop, map, sym, ap, ◌∙◌, subst, heap_items, ranked_item, IsBestWaiting}
use Rattle.shard_store.proofs.Ranking.{dropped_none}
use Rattle.shard_store.proofs.queue.Queue.best.Goals as goal

pub returns : goal.returns
returns g c = λ o.
    let i = c.self.inside in let ms = map ranked_item (heap_items i.ranked) in
    let none = dropped_none i.taken i.front.items (c.self.invariant.none_front (ap (λ q. q.room.order) c.self.view_is ∙ o)) in
    subst (λ zs. IsBestWaiting g.A.PathAlgebra.order zs c.best_with.result)
    (ap (λ bs. ms ++ bs) c.deref.ensures.value ∙ ap (λ fs. ms ++ (fs ++ i.back.items)) (sym none) ∙ ap (λ q. q.items) c.self.view_is)
    (c.best_with.ensures ms c.top_value.ensures)

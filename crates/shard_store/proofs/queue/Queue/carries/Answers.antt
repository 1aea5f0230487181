use Rattle.shard_store.proofs.Words.{ap, sym, ◌∙◌, leb, drop, map, ◌++◌, heap_items, counted, ranked_item}
use Rattle.shard_store.proofs.Totals.{in_one}
use Rattle.shard_store.proofs.Ranking.{in_second, in_third}
use Rattle.shard_store.proofs.queue.Queue.carries.Goals.{then-is_ranked, else-is_ranked}
use Rattle.shard_store.proofs.queue.Queue.carries.Goals as goal

pub returns-then-carried_in : goal.returns-then-carried_in
returns-then-carried_in g c = elim c.if-is_ranked.branch [
  | then-is_ranked w ↦ c.if-carried_in.true ∙ sym w.if-is_ranked.true ∙ in_one c.args.arc (map ranked_item (heap_items c.self.inside.ranked)) ((drop c.self.inside.taken c.self.inside.front.items) ++ c.self.inside.back.items) c.args.self.now.items c.is_ranked.result (ap (λ q. q.items) c.self.view_is)
      (c.is_ranked.ensures ∙ ap (λ xs. leb 1 (counted c.args.arc (map ranked_item xs))) c.as_slice.ensures.value) w.if-is_ranked.true
  | else-is_ranked w ↦ w.value-is ∙ in_second c.args.arc (map ranked_item (heap_items c.self.inside.ranked)) (drop c.self.inside.taken c.self.inside.front.items) c.self.inside.back.items c.args.self.now.items c.is_ranked.result w.carried_in.result (ap (λ q. q.items) c.self.view_is)
      (c.is_ranked.ensures ∙ ap (λ xs. leb 1 (counted c.args.arc (map ranked_item xs))) c.as_slice.ensures.value) w.if-is_ranked.false
      (w.carried_in.ensures ∙ ap (λ xs. leb 1 (counted c.args.arc (drop c.self.inside.taken xs))) w.deref.ensures.value) (sym w.value-is ∙ c.if-carried_in.true)
]

pub returns-else-carried_in : goal.returns-else-carried_in
returns-else-carried_in g c = elim c.if-is_ranked.branch [
  | then-is_ranked w ↦ absurd (let v = w.value-is in let f = c.if-carried_in.false in cc)
  | else-is_ranked w ↦ in_third c.args.arc (map ranked_item (heap_items c.self.inside.ranked)) (drop c.self.inside.taken c.self.inside.front.items) c.self.inside.back.items c.args.self.now.items c.is_ranked.result w.carried_in.result c.carried_in-else-carried_in.result (ap (λ q. q.items) c.self.view_is)
      (c.is_ranked.ensures ∙ ap (λ xs. leb 1 (counted c.args.arc (map ranked_item xs))) c.as_slice.ensures.value) w.if-is_ranked.false
      (w.carried_in.ensures ∙ ap (λ xs. leb 1 (counted c.args.arc (drop c.self.inside.taken xs))) w.deref.ensures.value) (sym w.value-is ∙ c.if-carried_in.false)
      (c.carried_in-else-carried_in.ensures ∙ ap (λ xs. leb 1 (counted c.args.arc xs)) c.deref-else-carried_in.ensures.value)
]

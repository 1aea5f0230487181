use Rattle.shard_store.proofs.Words.{◌≡◌, ap, refl, ◌∙◌, rules, length, arith, ranked_item}
use Rattle.std.specs.Prelude.{vec_len}
use Rattle.std.specs.BinaryHeap.{heap_items, heap_len}
use Rattle.shard_store.proofs.Ranking.{joined, newest_fits, newest_ranked, still_queue}
use Rattle.shard_store.proofs.queue.Queue.rank_newest.Goals as goal

pub invariant_of-self : goal.invariant_of-self
invariant_of-self g c =
    let order = ap (λ q. q.room.order) c.self.view_is ∙ c.requires.order in
    let held : heap_len c.self.inside.ranked ≡ length (heap_items c.self.inside.ranked) = search rules in
    let back : vec_len c.self.inside.back ≡ length c.self.inside.back.items = search rules in
    let fits = newest_fits _ _ _ _ _ _ _ _ c.self.invariant c.args.self.now (ranked_item c.args.message) (ap (λ q. q.items) c.self.view_is) (ap (λ q. q.ranked) c.self.view_is) order c.requires.newest in
    let ok = c.push.ensures.succeeds (omega (arith, held, fits)) in
    still_queue _ _ _ _ _ _ _ _ c.self.invariant c.args.self.now (ranked_item c.args.message) (ap (λ q. q.items) c.self.view_is) (ap (λ q. q.ranked) c.self.view_is) order c.requires.newest
    c.args.message refl (heap_items c.push.new.self) c.pop.new.self c.pop.result (joined _ c.push.result ok c.push.ensures.permutation) c.pop.ensures.items
    (λ h. c.pop.ensures.variant.1 (omega (arith, back, h))) _ c.push.ensures.capacity c.pop.ensures.capacity (joined _ c.push.result ok c.push.ensures.heap_order)

pub returns-clause-items : goal.returns-clause-items
returns-clause-items g c =
    let order = ap (λ q. q.room.order) c.self.view_is ∙ c.requires.order in
    let held : heap_len c.self.inside.ranked ≡ length (heap_items c.self.inside.ranked) = search rules in
    let back : vec_len c.self.inside.back ≡ length c.self.inside.back.items = search rules in
    let fits = newest_fits _ _ _ _ _ _ _ _ c.self.invariant c.args.self.now (ranked_item c.args.message) (ap (λ q. q.items) c.self.view_is) (ap (λ q. q.ranked) c.self.view_is) order c.requires.newest in
    let ok = c.push.ensures.succeeds (omega (arith, held, fits)) in
    newest_ranked _ _ _ _ _ _ _ _ c.self.invariant c.args.self.now (ranked_item c.args.message) (ap (λ q. q.items) c.self.view_is) (ap (λ q. q.ranked) c.self.view_is) order c.requires.newest
    c.args.message refl (heap_items c.push.new.self) c.pop.new.self c.pop.result (joined _ c.push.result ok c.push.ensures.permutation) c.pop.ensures.items
    (λ h. c.pop.ensures.variant.1 (omega (arith, back, h)))

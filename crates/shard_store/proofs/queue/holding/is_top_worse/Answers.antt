use Rattle.shard_store.proofs.Words.{sym, ap, ◌∙◌, map, not, heap_items, ranked_item}
use Rattle.std.proofs.lemmas.Bool.{not-true}
use Rattle.shard_store.proofs.Ranking.{top_is_best}
use Rattle.shard_store.proofs.Holding.{all_worse, top_worse}
use Rattle.shard_store.proofs.queue.holding.is_top_worse.Goals as goal

pub returns-in-Some-clause-held : goal.returns-in-Some-clause-held
returns-in-Some-clause-held g c = λ h.
    let laws = g.met.A.PathAlgebra g.world.𝓛 g.world.𝓜 g.world.𝓡 ((λ s x. x), (λ x. x), (λ x. x), λ x. x) in
    let m = c.in-Some.top.now in let ms = heap_items c.args.ranked.now in
    all_worse g.A.PathAlgebra.order laws.ordered m.rank m.value c.args.limit (sym c.no_worse.ensures ∙ not-true c.no_worse.result h) (map ranked_item ms)
    (top_is_best g.A.PathAlgebra.order m ms (c.in-Some.ensures.greatest c.requires))

pub returns-in-Some-clause-all : goal.returns-in-Some-clause-all
returns-in-Some-clause-all g c = λ h. ap not (c.no_worse.ensures ∙ top_worse g.A.PathAlgebra.order c.args.limit c.in-Some.top.now (heap_items c.args.ranked.now)
    c.in-Some.ensures.item.3.0 c.in-Some.ensures.lookup h)

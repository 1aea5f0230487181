use Rattle.shard_store.proofs.Words.{◌++◌, ◌∷◌, [], sym, subst, MessageOn, IsBestWaiting}
use Rattle.shard_store.proofs.Holding.{message_more}
use Rattle.shard_store.proofs.queue.holding.better.Goals as goal

pub returns-in-Message : goal.returns-in-Message
returns-in-Message g c = λ waiting h.
    let laws = g.met.A.PathAlgebra g.world.𝓛 g.world.𝓜 g.world.𝓡 ((λ s x. x), (λ x. x), (λ x. x), λ x. x) in
    let order = g.A.PathAlgebra.order in
    subst (λ i. IsBestWaiting order (waiting ++ i ∷ []) c.better_label.result) (sym c.in-Message.is)
    (subst (IsBestWaiting order (waiting ++ MessageOn c.in-Message.arc c.in-Message.value ∷ [])) (sym c.better_label.ensures)
    (message_more order laws.ordered waiting c.in-Message.arc c.in-Message.value c.args.best h))

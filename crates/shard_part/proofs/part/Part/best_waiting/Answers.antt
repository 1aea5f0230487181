use Rattle.std.proofs.Common.{ap, ◌∙◌, subst}
use Rattle.shard_store.specs.Queue.{IsBestWaiting}
use Rattle.shard_part.proofs.part.Part.best_waiting.Goals as goal

pub returns : goal.returns
returns g c = λ o. let e = ap (λ i. i.state) c.self-inside.view_is ∙ c.self.view_is in
    subst (λ xs. IsBestWaiting g.A.PathAlgebra.order xs c.best.result) (ap (λ p. p.queue) e)
    (c.best.ensures (c.self-inside.invariant.roomy.order ∙ ap (λ p. p.setup.order) e ∙ o))

use Rattle.shard_store.proofs.Words.{◌++◌, ◌∷◌, [], take, sym, ap, ◌∙◌, subst, arith, append_assoc, IsBestWaiting}
use Rattle.std.proofs.lemmas.List.{append-nil, take_more, take_all}
use Rattle.shard_store.proofs.queue.holding.best_with.Goals as goal

pub loop-i-init : goal.loop-i-init
loop-i-init g c = λ waiting h. subst (λ zs. IsBestWaiting g.A.PathAlgebra.order zs c.args.best) (sym (append-nil waiting)) h

pub loop-i-preserved : goal.loop-i-preserved
loop-i-preserved g c = λ waiting h. let xs = c.args.items.now in let k = c.loop-i.i in let i = c.index-items-i.result in
    subst (λ zs. IsBestWaiting g.A.PathAlgebra.order zs c.better-best.result)
    (append_assoc waiting (take k xs) (i ∷ []) ∙ ap (λ ys. waiting ++ ys) (ap (λ z. take k xs ++ z ∷ []) c.index-items-i.is ∙ sym (take_more xs k i (omega arith))))
    (c.better-best.ensures (waiting ++ take k xs) (c.loop-i.invariant waiting h))

pub returns : goal.returns
returns g c = λ waiting h. subst (λ zs. IsBestWaiting g.A.PathAlgebra.order (waiting ++ zs) c.loop-i.best) (take_all c.loop-i.i c.args.items.now (omega arith)) (c.loop-i.invariant waiting h)

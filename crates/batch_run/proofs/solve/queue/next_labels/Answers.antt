use Rattle.batch_run.proofs.Words.{refl, subst, ◌≡◌, ◌+◌, ℕ, [], ◌∷◌, kind_in, IsLabelling, Account, Reported}
use Rattle.batch_run.proofs.Reporting.{one}
use Rattle.batch_run.proofs.solve.queue.next_labels.Goals as goal

pub returns-clause-labels : goal.returns-clause-labels
returns-clause-labels g c = λ source next.
    let same : c.in_ok-next.next.source ≡ source = let taken = c.in_ok-next.ensures.next in cc in
    subst (λ (s : ℕ). IsLabelling (g.A.PathAlgebra.meaning c.args.over.now.batch.now.task.algebra) c.args.over.now.graph.now (kind_in c.args.over.now) (s ∷ []) c.in_ok-next.next.labelling) same
    c.in_ok-next.ensures.gathered.labelling

pub returns-clause-reported : goal.returns-clause-reported
returns-clause-reported g c = λ source next.
    let same : c.in_ok-next.next.source ≡ source = let taken = c.in_ok-next.ensures.next in cc in
    subst (λ (s : ℕ). Reported (g.A.PathAlgebra.meaning c.args.over.now.batch.now.task.algebra) c.args.over.now.batch.now.settings.now c.args.over.now.graph.now g.O.Watcher.may_become (Account (c.args.i + 1) s ∷ []) c.args.watcher.now c.report.new.self) same
    (one _ _ _ _ (Account (c.args.i + 1) c.in_ok-next.next.source) _ _ _
    (c.in_ok-next.next.tally, c.in_ok-next.ensures.gathered.account, refl) c.report.ensures)

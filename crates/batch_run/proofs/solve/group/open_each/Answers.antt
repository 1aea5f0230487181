use Rattle.batch_run.proofs.Words.{◌∙◌, ap, subst, IfOk, copied, sendable, NamedLft, crosses, AllZip-weaken, gathered, IsOpenedIn}
use Rattle.std.specs.declared.clone.Clone as clone
use Rattle.rayon.proofs.ToStd.{slice-AllZip}
use Rattle.batch_run.proofs.Sending.{opened_send}
use Rattle.batch_run.proofs.solve.group.open_each.Goals as goal

pub map-requires-send-U : goal.map-requires-send-U
map-requires-send-U g c κs within =
    let s = c.type_bounds in
    let sent = λ (κ : NamedLft) (p : clone.Ghosts _) (q : clone.Ghosts _). opened_send (copied 0 g.row.A) (copied 3 g.row.A-Value) g.A.PathAlgebra p q κ s.send-A s.send-A-Value in
    search (sendable, crosses, sent) depth 60 fits 100000

pub collect-requires-send-Self-Item : goal.collect-requires-send-Self-Item
collect-requires-send-Self-Item g c κs within =
    let s = c.type_bounds in
    let sent = λ (κ : NamedLft) (p : clone.Ghosts _) (q : clone.Ghosts _). opened_send (copied 0 g.row.A) (copied 3 g.row.A-Value) g.A.PathAlgebra p q κ s.send-A s.send-A-Value in
    search (sendable, crosses, sent) depth 60 fits 100000

pub collect-requires-send-C : goal.collect-requires-send-C
collect-requires-send-C g c κs within =
    let s = c.type_bounds in
    let sent = λ (κ : NamedLft) (p : clone.Ghosts _) (q : clone.Ghosts _). opened_send (copied 0 g.row.A) (copied 3 g.row.A-Value) g.A.PathAlgebra p q κ s.send-A s.send-A-Value in
    search (sendable, crosses, sent) depth 60 fits 100000

pub returns : goal.returns
returns g c =
    let at = IsOpenedIn g.A.PathAlgebra.meaning c.args.over.now c.args.counted.now.plan c.args.pace in
    let done = c.in_ok-opened.ensures in
    let chain = done.1 in
    let slice = ap (λ it. it.base.slice.now) c.map.ensures.base ∙ ap (λ it. it.slice.now) c.with_min_len.ensures.base ∙ c.par_iter.ensures in
    let ran = AllZip-weaken _ (λ source r. IfOk r (at source.now))
    (λ source r found. subst (λ f. IfOk r (IsOpenedIn g.A.PathAlgebra.meaning f.0.now f.1.now.plan f.2.now source.now)) c.map.ensures.f found) chain.0 done.0 chain.2 in
    let each = slice-AllZip chain.0 c.args.sources.now (chain.1 ∙ slice) (λ source r. IfOk r (at source)) done.0 ran in
    gathered at c.args.sources.now done.0 c.in_ok-opened.opened each done.2

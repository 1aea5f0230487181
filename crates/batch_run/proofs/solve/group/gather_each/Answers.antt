use Rattle.batch_run.proofs.Words.{◌∙◌, ap, subst, IfOk, AllZip, NamedLft, crosses, AllZip-weaken, gathered, IsGatheredFromIn, EndedDiffusion, GatheredDiffusion}
use denote.Param.{copied, param}
use denote.Exit.{no}
use denote.Param.Send.{param_send, arg_send, sendable}
use Rattle.std.specs.declared.clone.Clone as clone
use Rattle.rayon.specs.Lists.{vec_items}
use Rattle.batch_run.proofs.Sending.{ended_send, gather_send}
use Rattle.batch_run.proofs.solve.group.gather_each.Goals as goal

pub with_min_len-requires-send-Self : goal.with_min_len-requires-send-Self
with_min_len-requires-send-Self g c κs within =
    let s = c.type_bounds in
    let sent = λ (κ : NamedLft) (p : clone.Ghosts _) (q : clone.Ghosts _). ended_send (copied 0 g.row.A) (copied 3 g.row.A-Value) g.A.PathAlgebra p q κ s.send-A s.send-A-Value in
    search (sendable, crosses, sent) depth 60 fits 100000

pub with_min_len-requires-send-Self-Item : goal.with_min_len-requires-send-Self-Item
with_min_len-requires-send-Self-Item g c κs within =
    let s = c.type_bounds in
    let sent = λ (κ : NamedLft) (p : clone.Ghosts _) (q : clone.Ghosts _). ended_send (copied 0 g.row.A) (copied 3 g.row.A-Value) g.A.PathAlgebra p q κ s.send-A s.send-A-Value in
    search (sendable, crosses, sent) depth 60 fits 100000

pub map-requires-send-Self : goal.map-requires-send-Self
map-requires-send-Self g c κs within =
    let s = c.type_bounds in
    let sent = λ (κ : NamedLft) (p : clone.Ghosts _) (q : clone.Ghosts _). ended_send (copied 0 g.row.A) (copied 3 g.row.A-Value) g.A.PathAlgebra p q κ s.send-A s.send-A-Value in
    search (sendable, crosses, sent) depth 60 fits 100000

pub map-requires-send-Self-Item : goal.map-requires-send-Self-Item
map-requires-send-Self-Item g c κs within =
    let s = c.type_bounds in
    let sent = λ (κ : NamedLft) (p : clone.Ghosts _) (q : clone.Ghosts _). ended_send (copied 0 g.row.A) (copied 3 g.row.A-Value) g.A.PathAlgebra p q κ s.send-A s.send-A-Value in
    search (sendable, crosses, sent) depth 60 fits 100000

pub collect-requires-send-Self : goal.collect-requires-send-Self
collect-requires-send-Self g c κs within =
    let s = c.type_bounds in
    param_send 0 _ (arg_send _ no _ (gather_send (copied 0 g.row.A) (copied 3 g.row.A-Value) g.A.PathAlgebra g.A.Clone g.A.Value.Clone (param 1 g.row.R) (param 2 g.row.T) _ _ _ _ _ s.send-A s.send-A-Value (search sendable) (search sendable) (search sendable)))

pub returns : goal.returns
returns g c =
    let came = λ (e : EndedDiffusion g.row.A.Denot g.row.A-Value.Denot) (d : GatheredDiffusion g.row.A-Value.Denot). IsGatheredFromIn g.A.PathAlgebra.meaning c.args.over.now e d in
    let done = c.in_ok-gathered.ensures in
    let chain = done.1 in
    let all = chain.1 ∙ ap (λ it. vec_items it.base) c.map.ensures.base ∙ ap (λ it. vec_items it) c.with_min_len.ensures.base ∙ c.into_par_iter.ensures in
    let ran = AllZip-weaken _ (λ e r. IfOk r (came e))
    (λ e r found. subst (λ f. IfOk r (IsGatheredFromIn g.A.PathAlgebra.meaning f.0.now e)) c.map.ensures.f found) chain.0 done.0 chain.2 in
    gathered came c.args.ended.items done.0 c.in_ok-gathered.gathered (subst (λ l. AllZip (λ e r. IfOk r (came e)) l done.0) all ran) done.2

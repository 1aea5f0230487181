use Rattle.std.proofs.Common.{arith, ◌≡◌, ◌+◌, ap, ◌∙◌, sym, cond}
use Rattle.scholten_core.proofs.CoreSteps.{run_more, run_bound}
use Rattle.scholten_core.proofs.running.Core.run.Goals as goal
use Rattle.scholten_core.proofs.running.Core.run.Goals.{then-apply, else-apply}

pub overflow_add-enabled : goal.overflow_add-enabled
overflow_add-enabled g c =
    let b = run_bound g.A.PathAlgebra.meaning _ _ _ _ _ c.loop-event.invariant in omega (arith, b)

pub loop-event-preserved : goal.loop-event-preserved
loop-event-preserved g c =
    run_more g.A.PathAlgebra.meaning c.args.self.now c.loop-event.self c.apply.new.self c.args.events.now c.loop-event.event-index c.loop-event.enabled _ c.event-item.result c.apply.result
    c.loop-event-test.true c.event-item.is c.loop-event.invariant c.apply.ensures.same c.apply.ensures.state c.apply.ensures.enabled
    (elim c.if-apply.branch [
      | then-apply w ↦ w.enabled-is ∙ ap (λ b. c.loop-event.enabled + cond b 1 0) (sym w.if-apply.true)
      | else-apply w ↦ w.enabled-is ∙ (let z : c.loop-event.enabled ≡ c.loop-event.enabled + 0 = omega arith in z) ∙ ap (λ b. c.loop-event.enabled + cond b 1 0) (sym w.if-apply.false)
    ])

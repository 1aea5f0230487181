use Rattle.batch_run.proofs.Words.{None, Some, sym, ◌∙◌, subst, AreOpened, setup_of}
use Rattle.batch_run.proofs.Together.{opened_held}
use Rattle.batch_run.proofs.solve.group.open_at_pace.Goals.{in-Some, in_default-ahead}
use Rattle.batch_run.proofs.solve.group.open_at_pace.Goals as goal

pub returns : goal.returns
returns g c =
    let opened = AreOpened g.A.PathAlgebra.meaning (setup_of c.args.over.now.batch.now.task.algebra c.args.over.now.graph.now c.args.source c.args.counted.now.plan c.args.pace.order) in
    elim c.match-pace.branch [
      | in-Some w ↦ subst (λ a. opened a c.match-pace.floor c.in-Ok.opened.1.items) (sym w.in-Some.is)
          (subst (λ f. opened (Some w.in-Some.ahead) f c.in-Ok.opened.1.items) (sym (w.floor-is ∙ w.hold_back.ensures)) (opened_held c.in-Ok.ensures w.in-Some.ahead))
      | in_default-ahead w ↦ subst (λ a. opened a c.match-pace.floor c.in-Ok.opened.1.items) (sym w.in_default-ahead.is)
          (subst (λ f. opened None f c.in-Ok.opened.1.items) (sym w.floor-is) c.in-Ok.ensures)
    ]

use Rattle.batch_run.proofs.Words.{subst, AllZip, IsOpenedIn}
use Rattle.batch_run.proofs.solve.group.run_together.Goals as goal

pub run_opened-requires-clause-opened : goal.run_opened-requires-clause-opened
run_opened-requires-clause-opened g c κs within =
    rw c.plan.ensures.plan (subst (λ pace. AllZip (IsOpenedIn g.A.PathAlgebra.meaning c.args.over.now c.args.counted.now.plan pace) c.args.sources.now c.in_ok-opened.opened.items) c.requires.pace c.in_ok-opened.ensures)

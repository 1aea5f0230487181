use Rattle.batch_run.proofs.Words.{refl, asked_in, sources_to_come}
use Rattle.batch_run.proofs.NextDiffusions.{none_waits}
use Rattle.batch_run.proofs.solve.workers.start_workers.Goals as goal

pub returns-clause-ready : goal.returns-clause-ready
returns-clause-ready g c = record {
  some = refl;
  next = none_waits (g.A.PathAlgebra.meaning c.args.batch.now.task.algebra) c.args.batch.now.settings.now c.args.solver.now.graph (asked_in c.args.batch.now).kind (sources_to_come (asked_in c.args.batch.now).questions 0 0) _
      (rw c.in_ok-counted.ensures (rw c.vertices.ensures.count at c.in_ok-plan.ensures), (rw c.in_ok-counted.ensures refl), λ i. record { order = c.of-pace.ensures.order i; ahead = c.of-pace.ensures.ahead i }, c.in_ok-by_head.ensures) c.new.ensures.items;
}

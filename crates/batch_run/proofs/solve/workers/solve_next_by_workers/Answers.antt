use Rattle.batch_run.proofs.Words.{refl, subst, sym, IsSolvedFor, asked_in}
use Rattle.batch_run.proofs.solve.workers.solve_next_by_workers.Goals as goal

pub returns : goal.returns
returns g c =
    let batch = c.args.batch.now in
    let after = c.in_ok-solved.ensures.after in
    let IsSolved = IsSolvedFor (g.A.PathAlgebra.meaning batch.task.algebra) c.args.solver.now.graph (asked_in batch) c.args.i in (
      (refl, (λ _. tt), record { graph = after.graph; ready = record { some = after.ready.some; next = after.ready.next } }),
      record {
        after = tt;
        solved = subst IsSolved (sym c.insert.ensures.value) c.in_ok-solved.ensures.solved;
        stops = tt;
        reported = c.in_ok-solved.ensures.reported;
      },
    )

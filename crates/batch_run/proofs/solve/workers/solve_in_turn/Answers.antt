use Rattle.std.proofs.lemmas.Result.{on_ok_weaker}
use Rattle.batch_run.proofs.Words.{refl}
use Rattle.batch_run.proofs.solve.workers.solve_in_turn.Goals as goal

pub returns : goal.returns
returns g c = record {
  after = record { graph = refl; ready = on_ok_weaker c.solve_by_workers.result (λ next. record { some = refl; next = next }) c.solve_by_workers.ensures.ready };
  solved = c.solve_by_workers.ensures.solved;
  stops = c.solve_by_workers.ensures.stops;
  reported = c.solve_by_workers.ensures.reported;
}

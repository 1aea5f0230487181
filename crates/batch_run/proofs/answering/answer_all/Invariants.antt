use Rattle.batch_run.proofs.Words.{asked_in, IsPreparedBy, MayTell, IsReady, IsSameSolver, graph_of, is_without_diffusions}
use Rattle.batch_run.proofs.AnsweredFirst.{AnsweredFirst}
use Rattle.batch_run.proofs.WrittenReports.{ReportedUntil}
use Rattle.batch_run.proofs.answering.answer_all.Given as goal

abbrev pub invariant-loop-i : goal.invariant-loop-i
invariant-loop-i g l = record {
  answered : AnsweredFirst (g.A.PathAlgebra.meaning l.batch.task.algebra) (graph_of l.fn.solver) (asked_in l.batch) l.i (g.W.RoadWrite.seen l.fn.out) (g.W.RoadWrite.seen l.out);
  ready : IsReady g.A.PathAlgebra.meaning l.batch l.i l.solver;
  same : IsSameSolver l.fn.solver l.solver;
  first : ReportedUntil (g.A.PathAlgebra.meaning l.batch.task.algebra) l.batch.settings.now (graph_of l.fn.solver) (asked_in l.batch) (is_without_diffusions l.fn.solver) (IsPreparedBy l.fn.solver)
      (MayTell g.A.PathAlgebra.meaning g.A.PathAlgebra.arc_cost l.batch l.fn.solver) g.O.Watcher.may_become l.i l.fn.watcher l.watcher (g.W.RoadWrite.seen l.fn.out) (g.W.RoadWrite.seen l.out);
}

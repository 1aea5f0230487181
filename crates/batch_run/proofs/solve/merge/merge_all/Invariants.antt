use Rattle.batch_run.proofs.Words.{take, map, ◌+◌, kind_in, questions_in, AreNext, IsLabelling, sources_to_come, Account, Reported}
use Rattle.batch_run.proofs.SourcesToCome.{sources_at}
use Rattle.batch_run.proofs.solve.merge.merge_all.Given as goal

abbrev pub invariant-loop-j : goal.invariant-loop-j
invariant-loop-j g l = record {
  best : IsLabelling (g.A.PathAlgebra.meaning l.over.batch.now.task.algebra) l.over.graph.now (kind_in l.over) (take l.j (sources_at (questions_in l.over) l.i)) l.merged;
  ready : AreNext (g.A.PathAlgebra.meaning l.over.batch.now.task.algebra) l.over.batch.now.settings.now l.over.graph.now (kind_in l.over) (sources_to_come (questions_in l.over) l.i l.j) l.queue;
  reported : Reported (g.A.PathAlgebra.meaning l.over.batch.now.task.algebra) l.over.batch.now.settings.now l.over.graph.now g.O.Watcher.may_become (map (Account (l.i + 1)) (take l.j (sources_at (questions_in l.over) l.i))) l.fn.watcher l.watcher;
}

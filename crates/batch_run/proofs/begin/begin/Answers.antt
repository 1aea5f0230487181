use Rattle.batch_run.proofs.Words.{err_from_is_err_and, asked_of}
use Rattle.batch_run.proofs.AnsweredFirst.{header_written, header_failed}
use Rattle.batch_run.proofs.begin.begin.Goals as goal

pub returns-in_err-write_header-clause-wrote : goal.returns-in_err-write_header-clause-wrote
returns-in_err-write_header-clause-wrote g c = rw (err_from_is_err_and c.from_residual.result c.from_residual.ensures.1).1 (header_failed (g.A.PathAlgebra.meaning c.args.task.now.algebra)
    (asked_of c.args.task.now.questions.now) _ _ _ c.kind.ensures c.len-count.ensures c.name.ensures _ _ c.in_err-write_header.ensures)

pub returns-clause-wrote : goal.returns-clause-wrote
returns-clause-wrote g c = header_written (g.A.PathAlgebra.meaning c.args.task.now.algebra) (asked_of c.args.task.now.questions.now) _ _ _ c.kind.ensures c.len-count.ensures c.name.ensures _ _ c.in_ok-write_header.ensures

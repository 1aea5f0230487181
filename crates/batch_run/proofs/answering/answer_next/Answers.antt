use Rattle.batch_run.proofs.Words.{◌+◌, get_or, sym, err_from_is_err_and, asked_in, Stops, graph_of, is_without_diffusions}
use Rattle.batch_run.proofs.AnsweredFirst.{group_may_stop, not_solved, not_written}
use Rattle.batch_run.proofs.Reporting.{prefix_all, question_answered}
use Rattle.batch_run.proofs.answering.answer_next.Goals as goal

pub returns-in_err-solved-clause-wrote : goal.returns-in_err-solved-clause-wrote
returns-in_err-solved-clause-wrote g c =
    let fault = err_from_is_err_and c.from_residual.result c.from_residual.ensures.1 in
    λ d. rw (fault.1, fault.2) (not_solved (g.A.PathAlgebra.meaning c.args.batch.now.task.algebra) (graph_of c.args.solver.now) _ _ c.in_err-solved.field-0.0)

pub returns-in_err-solved-clause-kind : goal.returns-in_err-solved-clause-kind
returns-in_err-solved-clause-kind g c =
    let fault = err_from_is_err_and c.from_residual.result c.from_residual.ensures.1 in
    rw (fault.1, fault.2) (group_may_stop (Stops g.A.PathAlgebra.meaning c.args.batch.now.task.algebra (graph_of c.args.solver.now) c.args.batch.now.settings.now (g.T.Gate.may_answer c.args.batch.now.gate.now)) (is_without_diffusions c.args.solver.now) c.in_err-solved.field-0.0
    c.in_err-solved.ensures.undiffused c.in_err-solved.ensures.stops)

pub answer_at-requires-clause-solved : goal.answer_at-requires-clause-solved
answer_at-requires-clause-solved g c κs within = (graph_of c.args.solver.now, sym c.vertices-n.ensures.count, c.in_ok-solved.ensures.solved)

pub returns-in_err-answer_at-clause-wrote : goal.returns-in_err-answer_at-clause-wrote
returns-in_err-answer_at-clause-wrote g c =
    let fault = err_from_is_err_and c.from_residual-in_err-answer_at.result c.from_residual-in_err-answer_at.ensures.1 in
    λ d. rw fault.1 (not_written (g.A.PathAlgebra.meaning c.args.batch.now.task.algebra) (graph_of c.args.solver.now) _ _ _ fault.0 fault.2
    (c.in_err-answer_at.ensures (graph_of c.args.solver.now) d (sym c.vertices-n.ensures.count) c.in_ok-solved.ensures.solved))

pub returns-in_err-answer_at-clause-unreported : goal.returns-in_err-answer_at-clause-unreported
returns-in_err-answer_at-clause-unreported g c =
    let fault = err_from_is_err_and c.from_residual-in_err-answer_at.result c.from_residual-in_err-answer_at.ensures.1 in
    rw fault.1 (λ d. prefix_all _ _ _ _ _ _ _ (c.in_ok-solved.ensures.reported d))

pub returns-clause-wrote : goal.returns-clause-wrote
returns-clause-wrote g c = λ d. c.in_ok-answer_at.ensures (graph_of c.args.solver.now) d (sym c.vertices-n.ensures.count) c.in_ok-solved.ensures.solved

pub returns-clause-reported : goal.returns-clause-reported
returns-clause-reported g c = λ d. question_answered _ _ _ _ (is_without_diffusions c.args.solver.now) (c.args.i + 1)
    (get_or (asked_in c.args.batch.now).questions c.args.i d) _ _ _ (c.in_ok-solved.ensures.reported d) c.report.ensures

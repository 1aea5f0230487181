use Rattle.std.proofs.lemmas.Result.{err_from_is_err_and}
use Rattle.batch_run.proofs.Reporting.{prefix_all, prefix_if_err}
use Rattle.batch_run.proofs.solve.workers.solve_by_workers.Goals as goal

pub returns-in_err-labelling-clause-reported : goal.returns-in_err-labelling-clause-reported
returns-in_err-labelling-clause-reported g c =
    let fault = err_from_is_err_and c.from_residual.result c.from_residual.ensures.1 in
    λ d. prefix_if_err _ _ _ _ _ _ _ _ fault.0 fault.1 (c.in_err-labelling.ensures.reported d)

pub returns-in-Err-clause-reported : goal.returns-in-Err-clause-reported
returns-in-Err-clause-reported g c = λ d. prefix_all _ _ _ _ _ _ _ (c.in_ok-labelling.ensures.reported d)

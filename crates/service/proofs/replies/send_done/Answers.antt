use Rattle.service.proofs.Words.{[], ◌∷◌, Ok, Err, Result, ap, map, fault_at, at_line, ended_list, MayGive, fault_text}
use Rattle.service.proofs.FedLaws.{replied_one, replied_then, fell_before}
use Rattle.service.proofs.ServiceLaws.{ended_early}
use Rattle.service.proofs.replies.send_done.Goals as goal

pub returns-in-Ok-clause-replied : goal.returns-in-Ok-clause-replied
returns-in-Ok-clause-replied g c = λ at e.
    let texts = (MayGive g.A.PathAlgebra.meaning g.T.Gate.may_answer c.args.answers.now c.args.solver.now) in
    let done : Result (Unit {0}) (Unit {0}) = Ok tt in
    let failed : Result (Unit {0}) (Unit {0}) = Err tt in
    rw (ended_early c.args.done c.if-not-done.false)
    (replied_then texts (Err (fault_at at 19) ∷ []) (map (at_line at) (ended_list c.args.done.ended)) _ _ _ c.send_end-in-Ok.result
    (replied_one texts (Err (fault_at at 19)) (fault_text 19 c.args.line) _ _ done (ap (fault_text 19) e) c.in-Ok.ensures.wrote) (c.send_end-in-Ok.ensures.replied at e))

pub returns-in-Err-clause-replied : goal.returns-in-Err-clause-replied
returns-in-Err-clause-replied g c = λ at e.
    let texts = (MayGive g.A.PathAlgebra.meaning g.T.Gate.may_answer c.args.answers.now c.args.solver.now) in
    let done : Result (Unit {0}) (Unit {0}) = Ok tt in
    let failed : Result (Unit {0}) (Unit {0}) = Err tt in
    rw (ended_early c.args.done c.if-not-done.false)
    (fell_before texts (Err (fault_at at 19) ∷ []) (map (at_line at) (ended_list c.args.done.ended)) _ _
    (replied_one texts (Err (fault_at at 19)) (fault_text 19 c.args.line) _ _ failed (ap (fault_text 19) e) c.in-Err.ensures.wrote))

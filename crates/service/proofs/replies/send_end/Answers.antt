use Rattle.service.proofs.Words.{Ok, Err, ap, fault_at, asked_of, MayGive, fault_text}
use Rattle.service.proofs.FedLaws.{replied_one}
use Rattle.service.proofs.replies.send_end.Goals as goal

pub returns-in-Some-Fault-clause-replied : goal.returns-in-Some-Fault-clause-replied
returns-in-Some-Fault-clause-replied g c = λ at e.
    let number = c.in-Some-Fault.number in
    rw (c.in-Some-Fault.is, c.in-Some-Fault.field-0-is)
    (replied_one (MayGive g.A.PathAlgebra.meaning g.T.Gate.may_answer c.args.answers.now c.args.solver.now) (Err (fault_at at number))
    (fault_text number c.reported_line.result) _ _ c.send_fault.result (ap (fault_text number) (c.reported_line.ensures at e)) c.send_fault.ensures.wrote)

pub returns-in-Some-Asked-clause-replied : goal.returns-in-Some-Asked-clause-replied
returns-in-Some-Asked-clause-replied g c = λ at e.
    rw (c.in-Some-Asked.is, c.in-Some-Asked.field-0-is)
    (replied_one (MayGive g.A.PathAlgebra.meaning g.T.Gate.may_answer c.args.answers.now c.args.solver.now)
    (Ok (asked_of c.in-Some-Asked.questions)) c.send_answer.ensures.wrote.0 _ _ c.send_answer.result c.send_answer.ensures.wrote.1 c.send_answer.ensures.wrote.2)

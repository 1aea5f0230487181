use Rattle.service.proofs.Words.{Err, asked_of, graph_of, is_without_diffusions}
use Rattle.batch_run.proofs.Stopped.{says_of_cause}
use Rattle.batch_run.proofs.Prefixes.{all_or_prefix}
use Rattle.service.proofs.AnswerLaws.{never_stalls, answered, fell, stopped}
use Rattle.service.proofs.batch_answers.BatchAnswers.answer.Goals as goal

pub returns-in-Ok-clause-wrote : goal.returns-in-Ok-clause-wrote
returns-in-Ok-clause-wrote g c = answered (g.A.PathAlgebra.meaning c.args.self.now.algebra) (is_without_diffusions c.args.solver.now) c.args.self.now.run.now.settings.now
    (g.T.Gate.may_answer c.args.self.now.run.now.gate.now) (graph_of c.args.solver.now) (asked_of c.args.questions.now)
    (g.W.RoadWrite.seen c.args.out.now) _ c.in-Ok.ensures.answered.text c.in-Ok.ensures.answered.sound

pub returns-in-Write-clause-wrote : goal.returns-in-Write-clause-wrote
returns-in-Write-clause-wrote g c =
    let meaning = g.A.PathAlgebra.meaning c.args.self.now.algebra in
    let roads = graph_of c.args.solver.now in
    fell meaning (is_without_diffusions c.args.solver.now) c.args.self.now.run.now.settings.now (g.T.Gate.may_answer c.args.self.now.run.now.gate.now) roads
    (asked_of c.args.questions.now) (g.W.RoadWrite.seen c.args.out.now) (g.W.RoadWrite.seen c.answer_all.new.out)
    (all_or_prefix meaning roads c.args.questions.now c.requires (c.answers_exist.ensures roads c.vertices.ensures.graph) (c.first_answers_begin_all.ensures roads)
    (g.W.RoadWrite.seen c.args.out.now) (g.W.RoadWrite.seen c.answer_all.new.out)
    (Err c.in-Err.cause) c.in-Err.ensures.answered.text) (c.in-Err.ensures.answered.failed c.in-Write.is)

pub returns-in_default-clause-wrote : goal.returns-in_default-clause-wrote
returns-in_default-clause-wrote g c =
    stopped (g.A.PathAlgebra.meaning c.args.self.now.algebra) (is_without_diffusions c.args.solver.now) c.args.self.now.run.now.settings.now
    (g.T.Gate.may_answer c.args.self.now.run.now.gate.now) (graph_of c.args.solver.now)
    (asked_of c.args.questions.now) (g.W.RoadWrite.seen c.args.out.now)
    c.in-Err.cause (g.W.RoadWrite.seen c.answer_all.new.out) _ c.write_fault.result
    (says_of_cause g.A.PathAlgebra.meaning c.args.self.now.algebra (graph_of c.args.solver.now) c.args.self.now.run.now.settings.now
    (g.T.Gate.may_answer c.args.self.now.run.now.gate.now) (is_without_diffusions c.args.solver.now) c.in-Err.cause c.in-Err.ensures.answered.kind) c.in_default.not-Write
    (never_stalls g.A.PathAlgebra.meaning c.args.self.now.algebra c.args.self.now.run.now.settings.now (g.T.Gate.may_answer c.args.self.now.run.now.gate.now) c.args.self.now.in_range.budget.0
    c.one_shard_never_stalls.ensures.groups (graph_of c.args.solver.now) (asked_of c.args.questions.now) (is_without_diffusions c.args.solver.now) c.in-Err.cause c.in-Err.ensures.answered.kind)
    c.in-Err.ensures.answered.some (c.in-Err.ensures.answered.whole c.in_default.not-Write)
    (c.in-Err.ensures.answered.unfailed c.in_default.not-Write) (rw c.number.ensures at c.write_fault.ensures)

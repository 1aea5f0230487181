use Rattle.batch_run.proofs.Words.{rules, refl, ap, subst, get_or, true, false, None, Ok, Err, ◌∙◌, err_from_is_err_and, GraphData, FromSource, answer_text, asked_in, MayStopBatch, WroteNext, count_diffusions, IsSameSolver, graph_of, is_without_diffusions}
use Rattle.batch_run.proofs.AnsweredFirst.{start, answered, stopped_first, stopped_at, stopped_for_memory, all_answered}
use Rattle.batch_run.proofs.Reporting.{begun as reports_begun}
use Rattle.batch_run.proofs.Telling.{may_tell, none_sought, some_told}
use Rattle.batch_run.proofs.WrittenReports.{at_least, only_begun, only_ordered, unreported, until_all, until_first, until_next, until_stopped}
use Rattle.batch_run.proofs.answering.answer_all.Goals as goal

pub begin-requires-after_bounds : goal.begin-requires-after_bounds
begin-requires-after_bounds g c κs within = ((graph_of c.args.solver.now).vertices, c.requires.within)

pub returns-in_err-begin-clause-answered : goal.returns-in_err-begin-clause-answered
returns-in_err-begin-clause-answered g c =
    let fault = err_from_is_err_and c.from_residual.result c.from_residual.ensures.1 in
    rw fault.1 (stopped_first (g.A.PathAlgebra.meaning c.args.batch.now.task.algebra) (graph_of c.args.solver.now) (asked_in c.args.batch.now) (MayStopBatch g.A.PathAlgebra.meaning g.T.Gate.may_answer c.args.batch.now c.args.solver.now) _ _ fault.0 fault.2 (rw fault.2 tt) c.in_err-begin.ensures.wrote)

pub returns-in_err-begin-clause-reported : goal.returns-in_err-begin-clause-reported
returns-in_err-begin-clause-reported g c =
    unreported _ _ _ _ _ _ _ _ _ _ _ (some_told c.args.solver.now None (none_sought c.args.solver.now)).1 _ _ c.in_err-begin.ensures.unreported

pub returns-in_err-found-clause-answered : goal.returns-in_err-found-clause-answered
returns-in_err-found-clause-answered g c =
    let fault = err_from_is_err_and c.from_residual-in_err-found.result c.from_residual-in_err-found.ensures.1 in
    rw fault.1 (stopped_for_memory (g.A.PathAlgebra.meaning c.args.batch.now.task.algebra) (graph_of c.args.solver.now) (asked_in c.args.batch.now) (MayStopBatch g.A.PathAlgebra.meaning g.T.Gate.may_answer c.args.batch.now c.args.solver.now) _ _ fault.0 fault.2 (rw fault.2 (λ other. absurd (other refl)))
    (start _ _ _ _ _ c.in_ok-begin.ensures.wrote))

pub returns-in_err-found-clause-reported : goal.returns-in_err-found-clause-reported
returns-in_err-found-clause-reported g c =
    let told = some_told c.args.solver.now None (none_sought c.args.solver.now) in
    only_begun _ _ _ _ _ _ _ _ _ _ _ told.1 _ (at_least _ _ _ 0 _ _ (start _ _ _ _ _ c.in_ok-begin.ensures.wrote)) _
    (reports_begun _ _ _ _ (is_without_diffusions c.args.solver.now) (asked_in c.args.batch.now).questions _ _ _ _ refl (ap (λ b. count_diffusions b (asked_in c.args.batch.now).questions) c.is_without_diffusions-undiffused.ensures) c.in_ok-begin.ensures.reported)

pub returns-in_err-start-clause-answered : goal.returns-in_err-start-clause-answered
returns-in_err-start-clause-answered g c =
    let fault = err_from_is_err_and c.from_residual-in_err-start.result c.from_residual-in_err-start.ensures.1 in
    rw fault.1 (stopped_for_memory (g.A.PathAlgebra.meaning c.args.batch.now.task.algebra) (graph_of c.args.solver.now) (asked_in c.args.batch.now) (MayStopBatch g.A.PathAlgebra.meaning g.T.Gate.may_answer c.args.batch.now c.args.solver.now) _ _ fault.0 fault.2 (rw fault.2 (λ other. absurd (other refl)))
    (start _ _ _ _ _ c.in_ok-begin.ensures.wrote))

pub returns-in_err-start-clause-reported : goal.returns-in_err-start-clause-reported
returns-in_err-start-clause-reported g c =
    let told = some_told c.args.solver.now c.in_ok-found.found c.in_ok-found.ensures.found in
    only_ordered _ _ _ _ _ _ _ _ _ _ _ told.1 _ (at_least _ _ _ 0 _ _ (start _ _ _ _ _ c.in_ok-begin.ensures.wrote)) _
    (reports_begun _ _ _ _ (is_without_diffusions c.args.solver.now) (asked_in c.args.batch.now).questions _ _ _ _ refl (ap (λ b. count_diffusions b (asked_in c.args.batch.now).questions) c.is_without_diffusions-undiffused.ensures) c.in_ok-begin.ensures.reported) _
    c.report_order.ensures.some c.report_order.ensures.none

pub answer_next-requires-clause-within : goal.answer_next-requires-clause-within
answer_next-requires-clause-within g c κs within = rw c.loop-i.invariant.same.graph c.requires.within

pub loop-i-init : goal.loop-i-init
loop-i-init g c =
    let header = start (g.A.PathAlgebra.meaning c.args.batch.now.task.algebra) (graph_of c.args.solver.now) (asked_in c.args.batch.now) _ _ c.in_ok-begin.ensures.wrote in
    let sought = c.in_ok-found.ensures in
    let started = c.in_ok-start.ensures in
    let kind = started.kind ∙ sought.kind in
    let same : IsSameSolver c.args.solver.now c.start.new.solver = record { graph = started.same.graph ∙ sought.same.graph; kind = started.same.kind ∙ sought.same.kind } in
    record {
      answered = header;
      ready = started.ready;
      same = same;
      first = until_first _ _ _ _ _ _ _ _ _ _
          (record { found = c.in_ok-found.found; became = c.factoring.result })
          (record { sought = sought.found; became = c.factoring.ensures.some ∙ kind }) _
          (at_least _ _ _ 0 _ _ header) _
          (reports_begun _ _ _ _ (is_without_diffusions c.args.solver.now) (asked_in c.args.batch.now).questions _ _ _ _ refl (ap (λ b. count_diffusions b (asked_in c.args.batch.now).questions) c.is_without_diffusions-undiffused.ensures) c.in_ok-begin.ensures.reported) _
          c.report_order.ensures.some c.report_order.ensures.none
          (may_tell g.A.PathAlgebra.meaning g.A.PathAlgebra.arc_cost c.args.batch.now c.args.solver.now c.start.new.solver same kind started.tried started.ready c.factoring.result c.factoring.ensures.is_true) _
          c.report_factoring.ensures.some c.report_factoring.ensures.none;
    }

pub loop-i-preserved : goal.loop-i-preserved
loop-i-preserved g c =
    let was = c.loop-i.invariant in
    let next = c.in_ok-answer_next.ensures in
    let wrote = subst (λ (r : GraphData). WroteNext (g.A.PathAlgebra.meaning c.args.batch.now.task.algebra) r (get_or (asked_in c.args.batch.now).questions c.loop-i.i (FromSource 0))
    (g.W.RoadWrite.seen c.loop-i.out) (g.W.RoadWrite.seen c.answer_next.new.out) (Ok tt)) was.same.graph (next.wrote (FromSource 0)) in
    let first = answered (g.A.PathAlgebra.meaning c.args.batch.now.task.algebra) (graph_of c.args.solver.now) (asked_in c.args.batch.now) c.loop-i.i _ _ _ (search rules) (FromSource 0) was.answered wrote in
    record {
      answered = first;
      ready = next.after.ready;
      same = record { graph = next.after.same.graph ∙ was.same.graph; kind = next.after.same.kind ∙ was.same.kind };
      first = until_next _ _ _ _ _ _ _ _ _ _ c.loop-i.i _ _ was.first (FromSource 0) _ _ (answer_text wrote.0) (search rules)
          (rw (was.same.graph, was.same.kind) at (next.reported (FromSource 0))) wrote.2 first;
    }

pub returns-in_err-answer_next-clause-same : goal.returns-in_err-answer_next-clause-same
returns-in_err-answer_next-clause-same g c =
    let next = c.in_err-answer_next.ensures.after.same in record { graph = next.graph ∙ c.loop-i.invariant.same.graph; kind = next.kind ∙ c.loop-i.invariant.same.kind }

pub returns-in_err-answer_next-clause-answered : goal.returns-in_err-answer_next-clause-answered
returns-in_err-answer_next-clause-answered g c =
    let fault = err_from_is_err_and c.from_residual-in_err-answer_next.result c.from_residual-in_err-answer_next.ensures.1 in
    let was = c.loop-i.invariant in
    let next = c.in_err-answer_next.ensures in
    rw (fault.1, fault.2) (stopped_at (g.A.PathAlgebra.meaning c.args.batch.now.task.algebra) (graph_of c.args.solver.now) (asked_in c.args.batch.now) c.loop-i.i _ _ _ (search rules) (FromSource 0) was.answered
    (MayStopBatch g.A.PathAlgebra.meaning g.T.Gate.may_answer c.args.batch.now c.args.solver.now) c.in_err-answer_next.field-0.0 (rw (was.same.graph, was.same.kind) at next.kind)
    (subst (λ (r : GraphData). WroteNext (g.A.PathAlgebra.meaning c.args.batch.now.task.algebra) r (get_or (asked_in c.args.batch.now).questions c.loop-i.i (FromSource 0))
    (g.W.RoadWrite.seen c.loop-i.out) (g.W.RoadWrite.seen c.answer_next.new.out) (Err c.in_err-answer_next.field-0.0)) was.same.graph (next.wrote (FromSource 0))))

pub returns-in_err-answer_next-clause-reported : goal.returns-in_err-answer_next-clause-reported
returns-in_err-answer_next-clause-reported g c =
    let was = c.loop-i.invariant in
    let next = c.in_err-answer_next.ensures in
    until_stopped _ _ _ _ _ _ _ _ _ _ c.loop-i.i _ _ was.first (FromSource 0) _ _ c.in_err-answer_next.field-0.0 (search rules)
    (rw (was.same.graph, was.same.kind) at (next.unreported (FromSource 0)))
    (subst (λ (r : GraphData). WroteNext (g.A.PathAlgebra.meaning c.args.batch.now.task.algebra) r (get_or (asked_in c.args.batch.now).questions c.loop-i.i (FromSource 0))
    (g.W.RoadWrite.seen c.loop-i.out) (g.W.RoadWrite.seen c.answer_next.new.out) (Err c.in_err-answer_next.field-0.0)) was.same.graph (next.wrote (FromSource 0)))

pub returns-clause-answered : goal.returns-clause-answered
returns-clause-answered g c = all_answered _ _ _ _ c.loop-i.i _ _ (search rules) c.loop-i.invariant.answered

pub returns-clause-all : goal.returns-clause-all
returns-clause-all g c = until_all _ _ _ _ _ _ _ _ _ _ c.loop-i.i _ _ c.loop-i.invariant.first true (search rules)

pub returns-clause-reported : goal.returns-clause-reported
returns-clause-reported g c = until_all _ _ _ _ _ _ _ _ _ _ c.loop-i.i _ _ c.loop-i.invariant.first false (search rules)

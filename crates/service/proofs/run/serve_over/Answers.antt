use Rattle.service.proofs.Words.{◌≡◌, ◌∙◌, Result, Ok, Err, sym, subst, refl, GraphData, graph_of, Stopped, RanOver, fault_of_stop, MayAnswer, ToldReads}
use Rattle.std.proofs.lemmas.Result.{err_from_is_err_and}
use Rattle.service.proofs.ServeLaws.{told_none}
use Rattle.service.proofs.OverLaws.{all_served, stopped, unfactored}
use Rattle.service.proofs.run.serve_over.Goals as goal

-- an input that was served to its end stopped nothing
went_on : (r : Result (Unit {0}) Stopped) (s : Stopped) → r ≡ Ok tt → r ≡ Err s → ⊥
went_on r s p e = cc

pub returns-in-Ok : goal.returns-in-Ok
returns-in-Ok g c =
    let A = g.A.PathAlgebra.meaning c.args.answers.now.algebra in
    let gate = g.T.Gate.may_answer c.args.answers.now.run.now.gate.now in
    let input = g.N.Reader.RoadRead.seen c.args.requests.now in
    let out = g.N.Writer.RoadWrite.seen c.args.out.now in
    record {
      ran = subst (λ (x : GraphData). RanOver A c.args.answers.now.run.now.settings.now gate x input (g.N.Reader.RoadRead.seen c.serve.new.input) out (g.N.Writer.RoadWrite.seen c.serve.new.out) (Ok tt)) c.factor_graph.ensures.same.graph
          (all_served A c.args.answers.now.run.now.settings.now gate (graph_of c.factor_graph.new.solver) input (g.N.Reader.RoadRead.seen c.serve.new.input) out (g.N.Writer.RoadWrite.seen c.serve.new.out)
          c.in-Ok.ensures.served (c.serve.ensures.passed_on (went_on _ _ c.in-Ok.is)) c.in-Ok.ensures.end (c.serve.ensures.sound (went_on _ _ c.in-Ok.is)));
      told = subst (λ (x : GraphData). ToldReads (MayAnswer A c.args.answers.now.run.now.settings.now gate x) x.vertices g.N.ReadWatcher.may_become c.args.watcher.now c.serve.new.watcher input
          (g.N.Reader.RoadRead.seen c.serve.new.input) out) c.factor_graph.ensures.same.graph c.serve.ensures.told;
    }

pub returns-in-Err : goal.returns-in-Err
returns-in-Err g c =
    let A = g.A.PathAlgebra.meaning c.args.answers.now.algebra in
    let gate = g.T.Gate.may_answer c.args.answers.now.run.now.gate.now in
    let input = g.N.Reader.RoadRead.seen c.args.requests.now in
    let out = g.N.Writer.RoadWrite.seen c.args.out.now in
    record {
      ran = rw c.fault_of_stop.ensures (subst (λ (x : GraphData). RanOver A c.args.answers.now.run.now.settings.now gate x input (g.N.Reader.RoadRead.seen c.serve.new.input) out (g.N.Writer.RoadWrite.seen c.serve.new.out) (Err (fault_of_stop c.in-Err.stop))) c.factor_graph.ensures.same.graph
          (stopped A c.args.answers.now.run.now.settings.now gate (graph_of c.factor_graph.new.solver) input (g.N.Reader.RoadRead.seen c.serve.new.input) out (g.N.Writer.RoadWrite.seen c.serve.new.out)
          c.in-Err.stop c.serve.result c.in-Err.is c.serve.ensures.read c.serve.ensures.write c.serve.ensures.long c.serve.ensures.passed_on c.serve.ensures.sound));
      told = subst (λ (x : GraphData). ToldReads (MayAnswer A c.args.answers.now.run.now.settings.now gate x) x.vertices g.N.ReadWatcher.may_become c.args.watcher.now c.serve.new.watcher input
          (g.N.Reader.RoadRead.seen c.serve.new.input) out) c.factor_graph.ensures.same.graph c.serve.ensures.told;
    }

pub returns-in_err-factor_graph : goal.returns-in_err-factor_graph
returns-in_err-factor_graph g c =
    let fault = err_from_is_err_and c.from_residual.result c.from_residual.ensures.1 in record {
      ran = rw (fault.1, fault.2, c.in_err-factor_graph.ensures.memory) (unfactored (g.A.PathAlgebra.meaning c.args.answers.now.algebra) c.args.answers.now.run.now.settings.now (g.T.Gate.may_answer c.args.answers.now.run.now.gate.now)
          (graph_of c.args.solver.now) (g.N.Reader.RoadRead.seen c.args.requests.now) (g.N.Reader.RoadRead.seen c.args.requests.now) (g.N.Writer.RoadWrite.seen c.args.out.now) (g.N.Writer.RoadWrite.seen c.args.out.now)
          (sym c.requires.factors ∙ c.in_err-factor_graph.ensures.chosen) refl refl);
      told = told_none _ _ _ _ _ _;
    }

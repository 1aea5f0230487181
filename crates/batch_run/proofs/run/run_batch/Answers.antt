use Rattle.batch_run.proofs.Words.{inl, inr, refl, ap, subst, Bool, true, false, Err, err_from_is_err_and, asked_of, RunFault, MayStop, fault_of, Stops, graph_of}
use Rattle.batch_run.proofs.CauseCases.{no_setting}
use Rattle.batch_run.proofs.OneShard.{not_stalled}
use Rattle.batch_run.proofs.OfInputs.{ran_stopped, ran_whole}
use Rattle.batch_run.proofs.Stopped.{says_of_cause, stopped_for}
use Rattle.batch_run.proofs.Suiting.{has_cost, suited_by, suited_whole}
use Rattle.batch_run.proofs.Telling.{told_as}
use Rattle.batch_run.proofs.Watching.{watched_all, watched_first, watched_none}
use Rattle.batch_run.proofs.run.run_batch.Goals as goal

pub returns-then-not-suit-clause-watched : goal.returns-then-not-suit-clause-watched
returns-then-not-suit-clause-watched g c =
    watched_none (g.A.PathAlgebra.meaning c.args.algebra) c.args.run.now.settings.now (g.I.BatchInput.is_read c.args.input.now) g.O.Watcher.may_become _ _ _ c.fault_of_run.result
    (inr (ap (λ (f : RunFault). f.number) c.fault_of_run.ensures))

pub returns-in-Err-clause-watched : goal.returns-in-Err-clause-watched
returns-in-Err-clause-watched g c =
    watched_none (g.A.PathAlgebra.meaning c.args.algebra) c.args.run.now.settings.now (g.I.BatchInput.is_read c.args.input.now) g.O.Watcher.may_become _ _ _ c.in-Err.fault
    (inl c.in-Err.ensures.named)

pub returns-in_err-answer_and_flush : goal.returns-in_err-answer_and_flush
returns-in_err-answer_and_flush g c =
    let A = g.A.PathAlgebra.meaning c.args.algebra in
    let how = c.args.run.now.settings.now in
    let gate = g.T.Gate.may_answer c.args.run.now.gate.now in
    let roads = graph_of c.in-Ok.read.0 in
    let asked = asked_of c.in-Ok.read.1 in
    let is_read = g.I.BatchInput.is_read c.args.input.now in
    let was = c.in_err-answer_and_flush.ensures in
    let cause = c.in_err-answer_and_flush.field-0.0 in
    let fault = err_from_is_err_and c.from_residual.result c.from_residual.ensures.1 in
    let may = subst (λ (b : Bool). MayStop b (Stops g.A.PathAlgebra.meaning c.args.algebra roads how gate) cause) c.in-Ok.ensures.chosen.kind was.passed_on.kind in
    let in_range = c.suit.ensures.in_range c.if-not-suit.false in
    let stopped = stopped_for g.A.PathAlgebra.meaning c.args.algebra roads how gate _ cause may is_read asked c.in-Ok.ensures.read in
    rw (fault.1, fault.2) (record {
      ran = ran_stopped A how gate is_read g.I.BatchInput.is_own (g.W.RoadWrite.seen c.args.out.now)
          (g.W.RoadWrite.seen c.answer_and_flush.new.out) roads asked c.in-Ok.ensures.read _ cause
          (says_of_cause g.A.PathAlgebra.meaning c.args.algebra roads how gate _ cause may)
          was.passed_on
          (λ enough. not_stalled g.A.PathAlgebra.meaning c.args.algebra how gate is_read in_range.budget.0 c.one_shard_never_stalls.ensures.groups enough (Err (fault_of cause)) stopped);
      suited = suited_by (g.A.PathAlgebra.arc_cost c.args.algebra) how c.suit.result c.if-not-suit.false c.suit.ensures.exactly (fault_of cause) (λ _. no_setting cause);
      read = g.met.I.BatchInput.later c.args.input.now c.read_batch.new.input (fault_of cause) refl (no_setting cause) c.in-Ok.ensures.done;
      stopped = stopped;
      watched = watched_first A how is_read g.O.Watcher.may_become _ _ _ _ roads asked c.in-Ok.ensures.read cause
          (told_as g.A.PathAlgebra.meaning g.A.PathAlgebra.arc_cost _ c.in-Ok.read.0 c.in-Ok.ensures.chosen (has_cost (g.A.PathAlgebra.arc_cost c.args.algebra) how c.suit.result c.if-not-suit.false c.suit.ensures.exactly) g.O.Watcher.may_become _ _ _ _ false was.reported);
    })

pub returns : goal.returns
returns g c =
    let A = g.A.PathAlgebra.meaning c.args.algebra in
    let how = c.args.run.now.settings.now in
    let gate = g.T.Gate.may_answer c.args.run.now.gate.now in
    let roads = graph_of c.in-Ok.read.0 in
    let asked = asked_of c.in-Ok.read.1 in
    let is_read = g.I.BatchInput.is_read c.args.input.now in
    let was = c.in_ok-answer_and_flush.ensures in
    record {
      ran = ran_whole A how gate is_read g.I.BatchInput.is_own (g.W.RoadWrite.seen c.args.out.now)
          (g.W.RoadWrite.seen c.answer_and_flush.new.out) roads asked c.in-Ok.ensures.read
          _ was.passed_on;
      suited = suited_whole (g.A.PathAlgebra.arc_cost c.args.algebra) how c.suit.result c.if-not-suit.false c.suit.ensures.exactly;
      read = c.in-Ok.ensures.done;
      stopped = record { stalled = tt; gated = tt };
      watched = watched_all A how is_read g.O.Watcher.may_become _ _ _ _ roads asked c.in-Ok.ensures.read
          (told_as g.A.PathAlgebra.meaning g.A.PathAlgebra.arc_cost _ c.in-Ok.read.0 c.in-Ok.ensures.chosen (has_cost (g.A.PathAlgebra.arc_cost c.args.algebra) how c.suit.result c.if-not-suit.false c.suit.ensures.exactly) g.O.Watcher.may_become _ _ _ _ true was.all);
    }

use Rattle.batch_run.proofs.Words.{true, false, asked_in, MayStopBatch, IsPreparedBy, MayTell, graph_of, is_without_diffusions}
use Rattle.std.proofs.lemmas.Result.{on_ok_weaker}
use Rattle.batch_run.proofs.AnsweredFirst.{no_fewer_failures}
use Rattle.batch_run.proofs.Flushing.{text_flushed, sound_flushed, kind_flushed, failed_flushed, whole_flushed, some_flushed, once_flushed, after_all, reported_flushed}
use Rattle.batch_run.proofs.Prefixes.{all_or_prefix, passed_on_since}
use Rattle.batch_run.proofs.flush.answer_and_flush.Goals as goal

pub returns : goal.returns
returns g c =
    let A = g.A.PathAlgebra.meaning c.args.batch.now.task.algebra in
    let roads = graph_of c.args.solver.now in
    let asked = asked_in c.args.batch.now in
    let may = MayStopBatch g.A.PathAlgebra.meaning g.T.Gate.may_answer c.args.batch.now c.args.solver.now in
    let answered = c.answer_all-answered.result in
    let was = c.answer_all-answered.ensures in
    let passed = c.flush_all.ensures in
    let r = c.flush_all.result in
    let out = g.W.RoadWrite.seen c.flush_all.new.out in
    let reported = reported_flushed A c.args.batch.now.settings.now roads asked (is_without_diffusions c.args.solver.now) (IsPreparedBy c.args.solver.now)
    (MayTell g.A.PathAlgebra.meaning g.A.PathAlgebra.arc_cost c.args.batch.now c.args.solver.now) g.O.Watcher.may_become c.args.watcher.now c.answer_all-answered.new.watcher _ _ out passed.bytes in
    record {
      passed_on = record {
        text = all_or_prefix A roads c.args.batch.now.task.questions.now c.requires.within (c.answers_exist.ensures roads c.vertices.ensures.graph) (c.first_answers_begin_all.ensures roads) _ _ r
            (text_flushed A roads asked _ _ _ _ _ _ passed.bytes answered r was.answered.text passed.passed_on passed.first);
        passed_on = on_ok_weaker r (λ both. both.1) passed.passed_on;
        sound = sound_flushed _ _ _ _ answered r was.answered.sound passed.passed_on passed.sound;
        kind = kind_flushed A roads asked may _ _ out answered was.answered r passed.first tt;
        failed = failed_flushed A roads asked may _ _ out answered was.answered r passed.first passed.more;
        once = once_flushed A roads asked may _ _ out answered was.answered r passed.first passed.once;
        flushed = passed_on_since r _ _ _ _ (no_fewer_failures A roads asked may _ _ answered was.answered) passed.flushed;
        whole = whole_flushed A roads asked may _ _ out answered was.answered r passed.first passed.bytes;
        some = some_flushed A roads asked may _ _ out answered was.answered r passed.first;
      };
      all = on_ok_weaker r (reported true) (after_all _ _ answered r was.all passed.passed_on);
      reported = reported false was.reported;
    }

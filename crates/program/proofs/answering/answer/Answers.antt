use Rattle.program.proofs.Words.{◌≡◌, ◌≤◌, false, true, inl, inr, refl, rules, subst, sym, option_map, accounts_text, EndsAs, gate_is_open, HasAccounts, Notes}
use Rattle.path_algebra.specs.Choices.{name_of}
use Rattle.batch_inputs.specs.Orders.{IsOrderedFile}
use Rattle.program.proofs.Adding.{account}
use Rattle.program.proofs.Ended.{shown_as, wanted_made}
use Rattle.program.proofs.GivesUp.{finishes}
use Rattle.program.proofs.Noted.{noted_all, under_told}
use Rattle.program.proofs.Ungated.{never_gated_under}
use Rattle.program.proofs.Unstalled.{never_stalled_under}
use Rattle.program.proofs.answering.answer.Goals as goal

pub shape_of-host : goal.shape_of-host
shape_of-host g c =
    let told = under_told c.args.method.now.chosen c.args.method.now.settings.now (g.I.BatchInput.is_read c.args.input.now)
    (Notes g.S.Files.NewFile.RoadWrite.seen g.S.Errors.RoadWrite.seen) _ _ _ _ c.run_chosen-batch.result
    c.run_chosen-batch.ensures.watched in
    let noted = noted_all g.S.Files.NewFile.RoadWrite.seen g.S.Errors.RoadWrite.seen told.0.0 _ _ told.0.1 in
    sym noted.same.1

pub returns-in-Err : goal.returns-in-Err
returns-in-Err g c = (
  c.args.input.now,
  c.args.order.now,
  inl (record { refusal = c.in-Err.refusal; why = c.in-Err.ensures.refused; unwritten = refl; says = c.refuse.ensures }),
)

pub returns : goal.returns
returns g c =
    let chosen = c.args.method.now.chosen in
    let how = c.args.method.now.settings.now in
    let is_read = g.I.BatchInput.is_read c.args.input.now in
    let is_own = IsOrderedFile g.I.BatchInput.is_own in
    let ran = c.run_chosen-batch.ensures in
    let outcome = c.run_chosen-batch.result in
    let seen = g.S.Files.NewFile.RoadWrite.seen in
    let shown = g.S.Errors.RoadWrite.seen in
    let errors = c.run_chosen-batch.new.watcher.errors.now in
    let told = under_told chosen how is_read (Notes seen shown) _ _ _ _ outcome ran.watched in
    let noted = noted_all seen shown told.0.0 _ _ told.0.1 in
    let ungated = never_gated_under chosen how is_read is_own _ _ outcome ran.run in
    let unstalled = λ (one : how.shards ≡ 1) (best : how.best_first ≡ true) (turns : 17179869376 ≤ how.turns).
    never_stalled_under how gate_is_open is_read is_own _ _ outcome
    (λ roads graph few enough. c.usual_turns_are_enough.ensures how roads graph few enough) one best turns _ ran.suited chosen ran.run in
    let lost = c.run_chosen-batch.new.watcher.lost in
    let accounted = account seen c.in-Ok.accounts _ c.end_accounts-kept.new.accounts lost (accounts_text (name_of chosen) told.0.0) c.end_accounts-kept.result
    c.end_accounts-kept.ensures
    (subst (λ accounts. HasAccounts seen c.in-Ok.accounts accounts false lost (accounts_text (name_of chosen) told.0.0)) (search rules)
    (subst (λ name. HasAccounts seen c.in-Ok.accounts c.run_chosen-batch.new.watcher.accounts.now false lost (accounts_text name told.0.0)) c.name.ensures noted.accounts)) in
    let ends = subst (λ outcome. EndsAs (λ _. 0) (shown errors) (shown c.end_with-status.new.errors) outcome c.end_with-status.result) c.outcome_of.ensures c.end_with-status.ensures in (
      c.run_chosen-batch.new.input.input.now,
      c.run_chosen-batch.new.input.order.now,
      inr (record {
        accounts = option_map seen c.in-Ok.accounts;
        accounts_after = option_map seen c.end_accounts-kept.new.accounts;
        answered = record { files = c.create_accounts.new.files; out = g.S.Out.RoadWrite.seen c.run_chosen-batch.new.out; errors = shown c.end_with-status.new.errors };
        created = record { tried = c.in-Ok.ensures.creates; wanted = wanted_made _ c.in-Ok.accounts _ c.in-Ok.ensures.wanted };
        ends = record {
          outcome = outcome;
          ran = record { run = ran.run; suited = ran.suited; stopped = ran.stopped; read = ran.read.2; ungated = ungated; unstalled = unstalled };
          reports = told.0.0;
          reported = told.1;
          kept = c.end_accounts-kept.result;
          accounted = accounted;
          watched = shown errors;
          shown = shown_as shown _ _ _ _ noted.errors;
          ends = ends;
          finishes = λ one best turns. finishes (accounts_text (name_of chosen) told.0.0) _ _ _ _ _ outcome c.end_accounts-kept.result (unstalled one best turns) ungated accounted ends;
        };
        timed = c.show_times.ensures;
      }),
    )

use Rattle.program.proofs.Words.{◌≡◌, inr, rules, subst, option_map, Result, is_some, IsRunFile, RunFault, opened_input, IsChosen}
use Rattle.batch_inputs.specs.Inputs.{HasReadBundle}
use Rattle.batch_inputs.specs.InputFaults.{IsBundleFile}
use Rattle.batch_inputs.specs.Spelled.{IsBundleOf}
use Rattle.program.proofs.Ended.{after_bundle, answers_as}
use Rattle.program.proofs.commands.bundle.Goals as goal

pub returns : goal.returns
returns g c =
    let wanted : c.is_some.result ≡ is_some c.args.args.now.watching.accounts = search rules in
    let seen = opened_input g.S.Files.File.RoadRead.seen g.S.Files.Stdin.RoadRead.seen in
    let text = seen c.in-Ok-open_to_bundle.opened.0 in
    let text_after = seen c.answer.ensures.0.bundle.now in
    let order = option_map seen c.in-Ok-open_to_bundle.opened.1 in
    let order_after = option_map seen c.answer.ensures.1 in
    inr (
      c.in-Ok.chosen,
      subst (λ b. IsChosen c.args.args.now.options b c.in-Ok.chosen) wanted c.in-Ok.ensures.chosen,
      inr (record {
        opened = _;
        text = text;
        order = order;
        inputs = c.in-Ok-open_to_bundle.ensures.opened;
        text_after = text_after;
        order_after = order_after;
        answers = answers_as _ _ _ _ _ _ _ _ _ _ _ _ c.answer.ensures.2 (after_bundle (IsBundleOf text.left) IsBundleFile IsRunFile order order_after _
            (λ (o : Result (Unit {0}) RunFault). HasReadBundle text text_after o));
      }),
    )

use Rattle.program.proofs.Words.{◌≡◌, inr, rules, subst, option_map, Result, is_some, IsRunFile, RunFault, opened_input, IsChosen}
use Rattle.batch_inputs.specs.Inputs.{HasReadPair}
use Rattle.batch_inputs.specs.InputFaults.{IsPairFile}
use Rattle.batch_inputs.specs.Spelled.{IsPairOf}
use Rattle.program.proofs.Ended.{after_pair, answers_as}
use Rattle.program.proofs.commands.solve.Goals as goal

pub returns : goal.returns
returns g c =
    let wanted : c.is_some.result ≡ is_some c.args.args.now.watching.accounts = search rules in
    let seen = opened_input g.S.Files.File.RoadRead.seen g.S.Files.Stdin.RoadRead.seen in
    let roads = seen c.in-Ok-open_pair.opened.0 in
    let roads_after = seen c.answer.ensures.0.graph.now in
    let questions = seen c.in-Ok-open_pair.opened.1 in
    let questions_after = seen c.answer.ensures.0.questions.now in
    let order_after = option_map seen c.answer.ensures.1 in
    inr (
      c.in-Ok.chosen,
      subst (λ b. IsChosen c.args.args.now.options b c.in-Ok.chosen) wanted c.in-Ok.ensures.chosen,
      inr (record {
        opened = _;
        roads = roads;
        roads_after = roads_after;
        questions = questions;
        questions_after = questions_after;
        order = _;
        order_after = order_after;
        inputs = c.in-Ok-open_pair.ensures.opened;
        answers = answers_as _ _ _ _ _ _ _ _ _ _ _ _ (rw (c.pair_of-pair.ensures) at c.answer.ensures.2) (after_pair (IsPairOf roads.left questions.left) IsPairFile IsRunFile _ order_after _ _
            (λ (o : Result (Unit {0}) RunFault). HasReadPair roads roads_after questions questions_after o));
      }),
    )

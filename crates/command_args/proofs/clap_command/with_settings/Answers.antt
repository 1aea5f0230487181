use Rattle.command_args.proofs.Words.{◌∙◌, ap₂, refl, IfOk-weaker, with_rule}
use Rattle.command_args.proofs.clap_command.with_settings.Goals as goal

pub returns : goal.returns
returns c =
    let with_1 = c.in_ok-arg.ensures.shape c.flag.ensures.global ∙ ap₂ with_rule refl c.flag.ensures.rule in
    let with_2 = c.in_ok-arg-2.ensures.shape c.flag-2.ensures.global ∙ ap₂ with_rule with_1 c.flag-2.ensures.rule in
    let with_3 = c.in_ok-arg-3.ensures.shape c.option.ensures.global ∙ ap₂ with_rule with_2 c.option.ensures.rule in
    let with_4 = c.in_ok-arg-4.ensures.shape c.algebra.ensures.global ∙ ap₂ with_rule with_3 c.algebra.ensures.rule in
    let with_5 = c.in_ok-arg-5.ensures.shape c.limit.ensures.global ∙ ap₂ with_rule with_4 c.limit.ensures.rule in
    let with_6 = c.in_ok-arg-6.ensures.shape c.usual_number.ensures.global ∙ ap₂ with_rule with_5 c.usual_number.ensures.rule in
    let with_7 = c.in_ok-arg-7.ensures.shape c.usual_number-2.ensures.global ∙ ap₂ with_rule with_6 c.usual_number-2.ensures.rule in
    let with_8 = c.in_ok-arg-8.ensures.shape c.usual_number-3.ensures.global ∙ ap₂ with_rule with_7 c.usual_number-3.ensures.rule in
    let with_9 = c.in_ok-arg-9.ensures.shape c.deal.ensures.global ∙ ap₂ with_rule with_8 c.deal.ensures.rule in
    let with_10 = c.in_ok-arg-10.ensures.shape c.number.ensures.global ∙ ap₂ with_rule with_9 c.number.ensures.rule in
    let with_11 = c.in_ok-arg-11.ensures.shape c.usual_number-4.ensures.global ∙ ap₂ with_rule with_10 c.usual_number-4.ensures.rule in
    let with_12 = c.in_ok-arg-12.ensures.shape c.flag-3.ensures.global ∙ ap₂ with_rule with_11 c.flag-3.ensures.rule in
    IfOk-weaker c.arg-13.result _ _ (λ r h. h.shape c.number-2.ensures.global ∙ ap₂ with_rule with_12 c.number-2.ensures.rule) c.arg-13.ensures

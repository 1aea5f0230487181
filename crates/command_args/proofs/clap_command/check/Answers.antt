use Rattle.command_args.proofs.Words.{◌∙◌, ap, ap₂, IfOk-weaker, app_of_fields, with_rule}
use Rattle.command_args.proofs.clap_command.check.Goals as goal

pub returns : goal.returns
returns c =
    let named = ap app_of_fields c.after_long_help.ensures ∙ ap app_of_fields c.after_help.ensures ∙ ap app_of_fields c.about.ensures ∙ c.new.ensures.app in
    let with_1 = c.in_ok-arg.ensures.shape c.file.ensures.global ∙ ap₂ with_rule named c.file.ensures.rule in
    let with_2 = c.in_ok-arg-2.ensures.shape c.file-2.ensures.global ∙ ap₂ with_rule with_1 c.file-2.ensures.rule in
    let with_3 = c.in_ok-arg-3.ensures.shape c.file-3.ensures.global ∙ ap₂ with_rule with_2 c.file-3.ensures.rule in
    IfOk-weaker c.arg-4.result _ _ (λ r h. h.shape c.limit.ensures.global ∙ ap₂ with_rule with_3 c.limit.ensures.rule) c.arg-4.ensures

use Rattle.command_args.proofs.Words.{◌∙◌, ap, ap₂, IfOk-weaker, app_of_fields, with_rule}
use Rattle.command_args.proofs.clap_command.order.Goals as goal

pub returns : goal.returns
returns c =
    let named = ap app_of_fields c.after_help.ensures ∙ ap app_of_fields c.about.ensures ∙ c.new.ensures.app in
    IfOk-weaker c.arg.result _ _ (λ r h. h.shape c.file.ensures.global ∙ ap₂ with_rule named c.file.ensures.rule) c.arg.ensures

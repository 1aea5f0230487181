use Rattle.command_args.proofs.Words.{◌∙◌, ap, ap₂, IfOk-weaker, app_of_fields, with_rule, settings, watching, with_rules}
use Rattle.command_args.proofs.clap_command.solve.Goals as goal

pub returns : goal.returns
returns c =
    let named = ap app_of_fields c.after_long_help.ensures ∙ ap app_of_fields c.after_help.ensures ∙ ap app_of_fields c.about.ensures ∙ ap app_of_fields c.before_long_help.ensures ∙ c.new.ensures.app in
    let with_1 = c.in_ok-arg.ensures.shape c.file.ensures.global ∙ ap₂ with_rule named c.file.ensures.rule in
    let with_2 = c.in_ok-command.ensures.shape c.file-2.ensures.global ∙ ap₂ with_rule with_1 c.file-2.ensures.rule in
    let set = c.in_ok-with_settings.ensures ∙ ap (λ a. with_rules a (settings c.args.algebras c.args.dealings)) with_2 in
    IfOk-weaker c.with_watching.result _ _ (λ r h. h ∙ ap (λ a. with_rules a watching) set) c.with_watching.ensures

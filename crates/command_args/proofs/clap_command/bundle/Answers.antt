use Rattle.command_args.proofs.Words.{◌∙◌, ap, IfOk-weaker, app_of_fields, settings, watching, with_rules}
use Rattle.command_args.proofs.clap_command.bundle.Goals as goal

pub returns : goal.returns
returns c =
    let named = ap app_of_fields c.after_long_help-command.ensures ∙ ap app_of_fields c.after_help.ensures ∙ ap app_of_fields c.long_about.ensures ∙ ap app_of_fields c.about.ensures ∙ ap app_of_fields c.before_long_help.ensures ∙ c.new.ensures.app in
    let set = c.in_ok-with_settings.ensures ∙ ap (λ a. with_rules a (settings c.args.algebras c.args.dealings)) named in
    IfOk-weaker c.with_watching.result _ _ (λ r h. h ∙ ap (λ a. with_rules a watching) set) c.with_watching.ensures

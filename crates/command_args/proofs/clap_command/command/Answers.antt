use Rattle.command_args.proofs.Words.{◌≡◌, ◌∙◌, ap, ap₂, codes, true, IfOk-weaker}
use Rattle.clap.specs.Simple.{App, app_of, app_of_fields, new_app, on_top, with_subcommand}
use Rattle.command_args.proofs.Globals.{no_globals}
use Rattle.command_args.proofs.clap_command.command.Goals as goal

pub returns : goal.returns
returns c =
    let versioned : app_of c.version.result ≡ on_top (λ s. record s { has_version = true }) (new_app (codes "diffuse")) =
    ap app_of_fields c.version.ensures ∙ ap (on_top (λ s. record s { has_version = true })) c.new.ensures.app in
    let told : app_of c.after_help.result ≡ on_top (λ s. record s { has_version = true }) (new_app (codes "diffuse")) =
    ap app_of_fields c.after_help.ensures ∙ ap app_of_fields c.about.ensures ∙ versioned in
    let named = ap app_of_fields c.subcommand_required.ensures ∙ ap (on_top (λ s. record s { subcommand_required = true })) told in
    let with_solve = c.in_ok-subcommand.ensures.shape (no_globals _ (ap (λ (a : App). a.top.is_plain) c.in_ok-solve.ensures)) ∙ ap₂ with_subcommand named (ap (λ (a : App). a.top) c.in_ok-solve.ensures) in
    let with_bundle = c.in_ok-subcommand-2.ensures.shape (no_globals _ (ap (λ (a : App). a.top.is_plain) c.in_ok-bundle.ensures)) ∙ ap₂ with_subcommand with_solve (ap (λ (a : App). a.top) c.in_ok-bundle.ensures) in
    let with_serve = c.in_ok-subcommand-3.ensures.shape (no_globals _ (ap (λ (a : App). a.top.is_plain) c.in_ok-serve.ensures)) ∙ ap₂ with_subcommand with_bundle (ap (λ (a : App). a.top) c.in_ok-serve.ensures) in
    let with_check = c.in_ok-subcommand-4.ensures.shape (no_globals _ (ap (λ (a : App). a.top.is_plain) c.in_ok-check.ensures)) ∙ ap₂ with_subcommand with_serve (ap (λ (a : App). a.top) c.in_ok-check.ensures) in
    let with_order = c.in_ok-subcommand-5.ensures.shape (no_globals _ (ap (λ (a : App). a.top.is_plain) c.in_ok-order.ensures)) ∙ ap₂ with_subcommand with_check (ap (λ (a : App). a.top) c.in_ok-order.ensures) in
    IfOk-weaker c.subcommand-6.result _ _ (λ r h. h.shape (no_globals _ (ap (λ (a : App). a.top.is_plain) c.in_ok-faults.ensures)) ∙ ap₂ with_subcommand with_order (ap (λ (a : App). a.top) c.in_ok-faults.ensures)) c.subcommand-6.ensures

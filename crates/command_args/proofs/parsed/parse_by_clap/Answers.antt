use Rattle.command_args.proofs.Words.{Some, None, inr, map, refl, rules, string_bytes, app_of, subcommand_rows_of, kind_of, IsNamed}
use Rattle.command_args.proofs.Parsing.{parsed, refused, unnamed}
use Rattle.command_args.proofs.parsed.parse_by_clap.Goals as goal

pub returns-in-Err-clause-refused : goal.returns-in-Err-clause-refused
returns-in-Err-clause-refused c = refused (map (λ word. string_bytes word) c.args.words.now) (app_of c.in_ok-command.command) _ _ c.in_ok-command.ensures refl refl c.in-Err.error c.in-Err.ensures.kinds

pub returns-in-Some-clause-asked : goal.returns-in-Some-clause-asked
returns-in-Some-clause-asked c =
    let named : IsNamed (subcommand_rows_of c.in-Ok.matches) (Some c.in-Some.asked) = search rules in
    parsed (map (λ word. string_bytes word) c.args.words.now) (app_of c.in_ok-command.command) _ _ c.in_ok-command.ensures refl refl c.in-Ok.matches c.in-Some.asked c.in-Ok.ensures.kinds
    c.in-Ok.ensures.ok.2 named

pub returns-clause-refused : goal.returns-clause-refused
returns-clause-refused c =
    let named : IsNamed (subcommand_rows_of c.in-Ok.matches) None = search rules in
    inr (unnamed (map (λ word. string_bytes word) c.args.words.now) (app_of c.in_ok-command.command) _ _ c.in_ok-command.ensures refl refl c.in-Ok.matches
    (kind_of c.in_ok-error-in-None.field-0) c.in-Ok.ensures.ok.2 named)

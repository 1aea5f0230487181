use Rattle.command_args.proofs.Words.{◌≡◌, Some, None, refl, subst, sym, IfOk-weaker, found_of, subcommand_rows_of, rows_of, IsNamed}
use Rattle.std.specs.Box.{box_value}
use Rattle.clap.specs.declared.parser.matches.ArgMatches.TheViews.{out-ArgMatches, out-SubCommand}
use Rattle.command_args.proofs.Reading.{both, neither}
use Rattle.command_args.proofs.parsed.subcommand_of.Goals as goal

pub returns-in-Some : goal.returns-in-Some
returns-in-Some c =
    let rows_are : subcommand_rows_of c.args.matches.now ≡ Some (c.in-Some.name.now, rows_of (found_of c.in-Some.found.now)) =
    both (λ b. (out-SubCommand (box_value b)).name.now) (λ b. rows_of (found_of (out-SubCommand (box_value b)).matches)) (out-ArgMatches c.args.matches.now).subcommand _ _
    c.in-Some.ensures.name c.in-Some.ensures.rows in
    IfOk-weaker c.subcommand_named.result _ _ (λ asked h. subst (λ it. IsNamed it asked) (sym rows_are) h) c.subcommand_named.ensures

pub returns-in-None : goal.returns-in-None
returns-in-None c =
    let none : subcommand_rows_of c.args.matches.now ≡ None =
    neither (λ b. (out-SubCommand (box_value b)).name.now) (λ b. rows_of (found_of (out-SubCommand (box_value b)).matches)) (out-ArgMatches c.args.matches.now).subcommand
    c.in-None.ensures.name in
    subst (λ it. IsNamed it None) (sym none) refl

use Rattle.command_args.proofs.Words.{◌≡◌, ◌∙◌, [], Some, None, map, subst, unwrap_or, AllZip, IfOk-weaker, found_of, IsFaultNumber}
use Rattle.clap.specs.Walk.{all_of, rows_of}
use Rattle.clap.proofs.WalkLemmas.{raw_values-rows}
use Rattle.command_args.proofs.Numbers.{zip_map}
use Rattle.command_args.proofs.parsed.numbers_of.Goals as goal

pub returns-in-Some : goal.returns-in-Some
returns-in-Some c =
    let given : Some (map (λ v. v.now) c.in-Some.texts.now) ≡ all_of c.args.name.now (rows_of (found_of c.args.matches.now)) =
    c.in-Some.ensures ∙ raw_values-rows (found_of c.args.matches.now) c.args.name.now in
    IfOk-weaker c.fault_numbers.result _ _ (λ numbers h. subst (λ texts. AllZip IsFaultNumber (unwrap_or texts []) numbers.items) given
    (zip_map IsFaultNumber (λ v. v.now) _ _ h)) c.fault_numbers.ensures

pub returns-in-None : goal.returns-in-None
returns-in-None c =
    let given : None ≡ all_of c.args.name.now (rows_of (found_of c.args.matches.now)) =
    c.in-None.ensures ∙ raw_values-rows (found_of c.args.matches.now) c.args.name.now in
    subst (λ texts. AllZip IsFaultNumber (unwrap_or texts []) c.new.result.items) given (rw (c.new.ensures.items) tt)

use Rattle.command_args.proofs.Words.{◌≡◌, ◌∙◌, [], ap, rules, unwrap_or, option_map, found_of, first_value-rows}
use Rattle.command_args.proofs.options.text_of.Goals as goal

pub returns : goal.returns
returns c =
    let given : c.unwrap_or.result.now ≡ unwrap_or (option_map (λ s. s.now) c.get_str.result) [] = search rules in
    given ∙ ap (λ text. unwrap_or text []) (c.get_str.ensures ∙ first_value-rows (found_of c.args.matches.now) c.args.name.now)

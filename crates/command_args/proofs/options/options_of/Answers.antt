use Rattle.command_args.proofs.Words.{◌∙◌, codes, found_of, first_value-rows}
use Rattle.command_args.proofs.options.options_of.Goals as goal

pub returns : goal.returns
returns c = record {
  algebra = c.text_of.ensures;
  limit = c.number_of.ensures;
  order = c.get_str.ensures ∙ first_value-rows (found_of c.args.matches.now) (codes "order");
  settings = c.settings_of.ensures;
}

use Rattle.command_args.proofs.Words.{◌∙◌, codes, found_of, first_value-rows}
use Rattle.command_args.proofs.options.watching_of.Goals as goal

pub returns : goal.returns
returns c = record {
  accounts = c.get_str.ensures ∙ first_value-rows (found_of c.args.matches.now) (codes "accounts");
  progress = c.flag_of.ensures;
  times = c.flag_of-2.ensures;
}

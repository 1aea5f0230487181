use Rattle.command_args.proofs.Words.{subst, ExplainsUnsignedError, HasUnsignedDigitsIfOk, found_of, one_text-rows, Reads}
use Rattle.command_args.proofs.Reading.{reads}
use Rattle.command_args.proofs.options.number_of.Goals as goal

pub returns : goal.returns
returns c = subst (λ text. Reads 64 text c.get_one.result) (one_text-rows (found_of c.args.matches.now) c.args.name.now)
    (reads (ExplainsUnsignedError 10) HasUnsignedDigitsIfOk 64 _ _ c.get_one.ensures.none c.get_one.ensures.value)

use Rattle.std.proofs.Common.{◌∙◌}
use Rattle.text_lines.proofs.WriteLaws.{fell_out}
use Rattle.program.proofs.AccountLines.{account_fell, account_then}
use Rattle.program.proofs.watch.accounts.write_account.Goals as goal

pub returns-in_err-write_bytes : goal.returns-in_err-write_bytes
returns-in_err-write_bytes g c = fell_out _ _ _ _ c.from_residual.result c.from_residual.ensures.1
    (account_fell _ _ c.args.question c.args.source c.args.tally _ (c.as_bytes.ensures.value ∙ c.as_str.ensures.value ∙ c.words_of_diffusion.ensures) c.in_err-write_bytes.ensures)

pub returns : goal.returns
returns g c = account_then _ _ _ c.args.question c.args.source c.args.tally _ _ c.write_bytes-2.result
    (c.as_bytes.ensures.value ∙ c.as_str.ensures.value ∙ c.words_of_diffusion.ensures)
    (c.as_bytes-2.ensures.value ∙ c.as_str-2.ensures.value ∙ c.words_of_tally.ensures)
    c.in_ok-write_bytes.ensures c.write_bytes-2.ensures

use Rattle.std.proofs.Common.{◌<◌, arith}
use Rattle.text_lines.proofs.ShortLineLaws.{joined, first_two}
use Rattle.text_lines.proofs.Splits.{All-one}
use Rattle.text_lines.proofs.short_lines.short_line.Goals as goal

pub returns-clause-line : goal.returns-clause-line
returns-clause-line c = joined c.args.bytes.now _ _ _ _ _ _ _ (first_two c.args.bytes.now c.if-bytes-lt2.false c.if-bytes-ne32.false) (omega arith, All-one (λ b. 32 < b) _ c.if-bytes-le32.false)
    c.in_ok-first.ensures.number c.in_ok-second.ensures.number c.in_ok-third.ensures.number

use Rattle.text_lines.proofs.Words.{◌≡◌, arith, ◌∙◌, prefix_len, is_ascii_digit}
use Rattle.text_lines.proofs.LeadingNumbers.{leading_digits, leading_number}
use Rattle.text_lines.proofs.short_lines.leading_number.Goals as goal

pub returns-clause-digits : goal.returns-clause-digits
returns-clause-digits c =
    let prefix : c.read_digits-prefix.result.0 ≡ prefix_len is_ascii_digit c.args.bytes.now = c.read_digits-prefix.ensures.end ∙ omega arith in
    rw prefix (leading_digits c.args.bytes.now)

pub returns-clause-number : goal.returns-clause-number
returns-clause-number c = leading_number c.args.bytes.now _ _ (c.read_digits-prefix.ensures.end ∙ omega arith) c.read_digits-prefix.ensures.within (omega arith) c.read_digits-prefix.ensures.value

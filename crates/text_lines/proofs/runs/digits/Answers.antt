use Rattle.text_lines.proofs.Words.{◌≡◌, ap, sym, ◌∙◌, get_or, true, arith, Some, is_ascii_digit, All-more, is_plain, number_on}
use Rattle.text_lines.proofs.ScanLaws.{number_with-take_more}
use Rattle.text_lines.proofs.Splits.{plain_digit}
use Rattle.text_lines.proofs.runs.digits.Goals as goal

pub loop-prefix-preserved : goal.loop-prefix-preserved
loop-prefix-preserved c =
    let digit = sym c.is_ascii_digit.ensures.value ∙ c.if-is_ascii_digit.true in
    record {
      within = omega arith;
      digits = All-more (λ b. is_ascii_digit b ≡ true) c.args.bytes.now c.loop-prefix.prefix 0 c.loop-prefix-test.true c.loop-prefix.invariant.digits digit;
      plain = All-more (λ b. is_plain b ≡ true) c.args.bytes.now c.loop-prefix.prefix 0 c.loop-prefix-test.true c.loop-prefix.invariant.plain
          (plain_digit (get_or c.args.bytes.now c.loop-prefix.prefix 0) digit);
      number = c.digit_on-grown.ensures ∙ ap (λ o. number_on o (get_or c.args.bytes.now c.loop-prefix.prefix 0)) c.loop-prefix.invariant.number
          ∙ sym (number_with-take_more (Some c.args.number) c.args.bytes.now c.loop-prefix.prefix c.loop-prefix-test.true);
    }

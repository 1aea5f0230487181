use Rattle.text_lines.proofs.Words.{◌≡◌, ap, sym, ◌∙◌, get_or, true, arith, All-more, is_plain, number_on}
use Rattle.text_lines.proofs.ScanLaws.{number_with-take_more}
use Rattle.text_lines.proofs.runs.run.Goals as goal

pub loop-prefix-preserved : goal.loop-prefix-preserved
loop-prefix-preserved c = record {
  within = omega arith;
  plain = All-more (λ b. is_plain b ≡ true) c.args.bytes.now c.loop-prefix.prefix 0 c.loop-prefix-test.true c.loop-prefix.invariant.plain (sym c.is_plain.ensures ∙ c.if-is_plain.true);
  number = c.number_on-grown.ensures ∙ ap (λ o. number_on o (get_or c.args.bytes.now c.loop-prefix.prefix 0)) c.loop-prefix.invariant.number
      ∙ sym (number_with-take_more c.args.number c.args.bytes.now c.loop-prefix.prefix c.loop-prefix-test.true);
}

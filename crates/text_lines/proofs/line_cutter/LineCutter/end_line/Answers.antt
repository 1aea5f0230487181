use Rattle.text_lines.proofs.Words.{ap, ◌∙◌, Scan, past, strip_carriage_return}
use Rattle.text_lines.proofs.ScanLaws.{shows_fields}
use Rattle.text_lines.proofs.line_cutter.LineCutter.end_line.Goals as goal

pub returns-clause-line : goal.returns-clause-line
returns-clause-line g c = λ present held. record {
  shown = ap (λ (s : Scan). s.0) c.close.ensures ∙ ap past c.end_field.ensures.scanner ∙ shows_fields _ _ held.shown;
  told = c.end_field.ensures.told (strip_carriage_return present) held.shown;
}

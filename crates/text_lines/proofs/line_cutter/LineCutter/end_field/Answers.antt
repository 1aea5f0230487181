use Rattle.text_lines.proofs.Words.{◌≡◌, ◌<◌, sym, ap, ◌∙◌, subst, arith, length, eqb-true, common_steps, scan_of, Word}
use Rattle.text_lines.proofs.ScanLaws.{told_on, told_same}
use Rattle.text_lines.proofs.line_cutter.LineCutter.end_field.Goals as goal

pub returns-then-is_empty-clause-told : goal.returns-then-is_empty-clause-told
returns-then-is_empty-clause-told g c =
    let none : length (scan_of c.args.self.now.scanner).1.text ≡ 0 = ap (λ (w : Word). length w.text) (sym c.present-present.ensures) ∙ eqb-true _ 0 (sym c.is_empty.ensures ∙ c.if-is_empty.true) in
    λ line shows. told_same _ (scan_of c.args.self.now.scanner) line none shows

pub returns-clause-told : goal.returns-clause-told
returns-clause-told g c =
    let here : 0 < length c.present-present.result.now.text.items = grind (arith, common_steps) in
    let some : 0 < length (scan_of c.args.self.now.scanner).1.text = subst (λ (w : Word). 0 < length w.text) c.present-present.ensures here in
    λ line shows. told_on _ (g.T.FieldTaker.so_far c.field.new.self) (scan_of c.args.self.now.scanner) line some (λ fs f p e. c.field.ensures.told fs f p (c.present-present.ensures ∙ e)) shows

use Rattle.text_lines.proofs.Words.{◌≡◌, ◌<◌, length, sym, ap, ◌∙◌, subst, arith, eqb-true, common_steps, scan_of, Word, no_word}
use Rattle.text_lines.proofs.ScanLaws.{past_none, past_full, past_kept}
use Rattle.text_lines.proofs.ScannerLaws.{words_count}
use Rattle.text_lines.proofs.scanner.Scanner.close.Goals as goal

pub returns-then-self-eq-FIELDS : goal.returns-then-self-eq-FIELDS
returns-then-self-eq-FIELDS c =
    let s = c.args.self.now in
    let scan = scan_of s in
    let full : length scan.0 ≡ 6 = words_count s.slots s.filled (omega (arith, s.room, s.few)) ∙ c.if-self-eq-FIELDS.true in
    c.drop_present.ensures ∙ ap (λ ws. (ws, no_word)) (sym (past_full scan.0 scan.1 full))

pub returns-then-is_empty : goal.returns-then-is_empty
returns-then-is_empty c =
    let scan = scan_of c.args.self.now in
    let none : length scan.1.text ≡ 0 = ap (λ (w : Word). length w.text) (sym c.present.ensures) ∙ eqb-true _ 0 (sym c.is_empty.ensures ∙ c.if-is_empty.true) in
    c.drop_present-then-is_empty.ensures ∙ ap (λ ws. (ws, no_word)) (sym (past_none scan.0 scan.1 none))

pub returns-else-is_empty : goal.returns-else-is_empty
returns-else-is_empty c =
    let s = c.args.self.now in
    let scan = scan_of s in
    let here : 0 < length c.present.result.now.text.items = grind (arith, common_steps) in
    let some : 0 < length scan.1.text = subst (λ (w : Word). 0 < length w.text) c.present.ensures here in
    let room : length scan.0 < 6 = omega (arith, words_count s.slots s.filled (omega (arith, s.room, s.few)), s.few, c.if-self-eq-FIELDS.false) in
    c.keep_present.ensures ∙ ap (λ ws. (ws, no_word)) (sym (past_kept scan.0 scan.1 (λ e. omega (arith, e, some)) room))

use Rattle.text_lines.proofs.Words.{◌≡◌, ◌∷◌, [], ◌++◌, ap, ◌∙◌, sym, subst, true, false, is_gap, Scan, Shows, past, scan_of, no_word, Holds}
use Rattle.text_lines.proofs.ScanLaws.{shows_gap, shows_other}
use Rattle.text_lines.proofs.TextLaws.{shows_whole, holds_return, holds_other}
use Rattle.text_lines.proofs.line_cutter.LineCutter.present_byte.Goals as goal

pub returns-then-byte-eq13-clause-present : goal.returns-then-byte-eq13-clause-present
returns-then-byte-eq13-clause-present g c = λ present held.
    let P = g.T.FieldTaker.so_far c.args.self.now.taker in
    let full : Shows P (scan_of c.add_pending.new.self) present = rw c.add_pending.ensures (shows_whole P c.args.self.now.pending (scan_of c.args.self.now.scanner) present held.pending held.shown) in
    rw c.if-byte-eq13.true (holds_return P (scan_of c.add_pending.new.self) present full held.whole)

pub returns-then-is_gap-clause-present : goal.returns-then-is_gap-clause-present
returns-then-is_gap-clause-present g c = λ present held.
    let P = g.T.FieldTaker.so_far c.args.self.now.taker in
    let Q = g.T.FieldTaker.so_far c.end_field.new.self.taker in
    let full : Shows P (scan_of c.add_pending.new.self) present = rw c.add_pending.ensures (shows_whole P c.args.self.now.pending (scan_of c.args.self.now.scanner) present held.pending held.shown) in
    let gap : is_gap c.args.byte ≡ true = sym c.is_gap.ensures ∙ c.if-is_gap.true in
    let gone : Shows Q (past (scan_of c.add_pending.new.self), no_word) (present ++ c.args.byte ∷ []) =
    shows_gap P Q (scan_of c.add_pending.new.self) present c.args.byte gap full (c.end_field.ensures.told present full) in
    let closed : Shows Q (scan_of c.close.new.self) (present ++ c.args.byte ∷ []) =
    subst (λ (s : Scan). Shows Q s (present ++ c.args.byte ∷ [])) (sym (c.close.ensures ∙ ap (λ (s : Scan). (past s, no_word)) c.end_field.ensures.scanner)) gone in
    let now : Holds Q true false (scan_of c.close.new.self) (present ++ c.args.byte ∷ []) =
    holds_other Q (scan_of c.close.new.self) present c.args.byte closed held.whole c.requires c.if-byte-eq13.false in
    rw (c.end_field.ensures.rest.0, c.end_field.ensures.rest.1) now

pub returns-clause-present : goal.returns-clause-present
returns-clause-present g c = λ present held.
    let P = g.T.FieldTaker.so_far c.args.self.now.taker in
    let full : Shows P (scan_of c.add_pending.new.self) present = rw c.add_pending.ensures (shows_whole P c.args.self.now.pending (scan_of c.args.self.now.scanner) present held.pending held.shown) in
    let gap : is_gap c.args.byte ≡ false = sym c.is_gap.ensures ∙ c.if-is_gap.false in
    holds_other P (scan_of c.go_on.new.self) present c.args.byte
    (subst (λ (s : Scan). Shows P s (present ++ c.args.byte ∷ [])) (sym c.go_on.ensures) (shows_other P (scan_of c.add_pending.new.self) present c.args.byte gap full))
    held.whole c.requires c.if-byte-eq13.false

use Rattle.text_lines.proofs.Words.{◌++◌, List, ℕ, sym, ◌∙◌, subst, true, false, Scan, Shows, scan_of, word_with, Holds}
use Rattle.text_lines.proofs.TextLaws.{shows_whole, holds_run}
use Rattle.text_lines.proofs.line_cutter.LineCutter.present_run.Goals as goal

pub returns-clause-present : goal.returns-clause-present
returns-clause-present g c = λ present held.
    let P = g.T.FieldTaker.so_far c.args.self.now.taker in
    let scan = scan_of c.args.self.now.scanner in
    let bytes : List ℕ = c.args.bytes.now in
    let full : Shows P scan present = shows_whole P false scan present (sym c.requires.whole ∙ held.pending) held.shown in
    let now : Holds P true false (scan.0, word_with scan.1 bytes) (present ++ bytes) = holds_run P scan present bytes c.requires.some c.requires.plain full held.whole in
    let taken : Holds P true false (scan_of c.add_run.new.self) (present ++ bytes) = subst (λ (s : Scan). Holds P true false s (present ++ bytes)) (sym c.add_run.ensures) now in
    rw c.requires.whole taken

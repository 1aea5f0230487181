use Rattle.path_factors.proofs.Words.{◌≡◌, ◌∙◌, arith, subst, sym, links_of, rows_between}
use Rattle.path_factors.proofs.Setting.{BlankedTo, rows_none, rows_marked, rows_unmarked, rows_all}
use Rattle.path_factors.proofs.packed.PackedRows.blanked.Goals as goal
use Rattle.path_factors.proofs.packed.PackedRows.blanked.Goals.{then-marks-i, else-marks-i}

pub loop-i-init : goal.loop-i-init
loop-i-init g c =
    let none = c.args.none in
    let marks = c.args.marks.now in
    let s = c.self.inside in
    let starts : c.in_ok-to_vec.field-0.items ≡ s.starts.items = c.in_ok-to_vec.ensures.items_if_clones_equal (λ x y is. is) ∙ c.deref.ensures.value in
    let places : c.in_ok-to_vec-2.field-0.items ≡ s.places.items = c.in_ok-to_vec-2.ensures.items_if_clones_equal (λ x y is. is) ∙ c.deref-2.ensures.value in
    let leaving : c.in_ok-copied.field-0.items ≡ s.leaving.items = c.in_ok-copied.ensures ∙ c.deref-3.ensures.value in
    let entering : c.in_ok-copied-2.field-0.items ≡ s.entering.items = c.in_ok-copied-2.ensures ∙ c.deref-4.ensures.value in
    let up : rows_between c.in_ok-to_vec.field-0.items (links_of c.in_ok-to_vec-2.field-0.items c.in_ok-copied.field-0.items) ≡ c.args.self.now.leaving =
    (λ i. rows_between (starts i) (links_of (places i) (leaving i))) ∙ (λ i. (c.self.view_is i).leaving) in
    let down : rows_between c.in_ok-to_vec.field-0.items (links_of c.in_ok-to_vec-2.field-0.items c.in_ok-copied-2.field-0.items) ≡ c.args.self.now.entering =
    (λ i. rows_between (starts i) (links_of (places i) (entering i))) ∙ (λ i. (c.self.view_is i).entering) in
    record {
      leaving = subst (λ r. BlankedTo none marks c.args.self.now.leaving r 0) (sym up) (rows_none none marks c.args.self.now.leaving);
      entering = subst (λ r. BlankedTo none marks c.args.self.now.entering r 0) (sym down) (rows_none none marks c.args.self.now.entering);
    }

pub loop-i-preserved : goal.loop-i-preserved
loop-i-preserved g c =
    let none = c.args.none in
    let marks = c.args.marks.now in
    let S = c.args.self.now in
    let i = c.loop-i.i in
    let done = c.loop-i.invariant in
    elim c.if-marks-i.branch [
      | then-marks-i w ↦ rw (w.rows-is) (record {
        leaving = rows_marked none marks S.leaving i _ c.loop-i.rows.leaving w.blank_row.new.self.leaving done.leaving w.if-marks-i.true w.blank_row.ensures.leaving (omega arith);
        entering = rows_marked none marks S.entering i _ c.loop-i.rows.entering w.blank_row.new.self.entering done.entering w.if-marks-i.true w.blank_row.ensures.entering (omega arith);
      })
      | else-marks-i w ↦ rw (w.rows-is) (record {
        leaving = rows_unmarked none marks S.leaving i c.loop-i.rows.leaving done.leaving w.if-marks-i.false;
        entering = rows_unmarked none marks S.entering i c.loop-i.rows.entering done.entering w.if-marks-i.false;
      })
    ]

pub returns-clause-leaving : goal.returns-clause-leaving
returns-clause-leaving g c =
    rows_all c.args.none c.args.marks.now c.args.self.now.leaving c.loop-i.i c.loop-i.rows.leaving c.loop-i.invariant.leaving (omega (arith, c.loop-i-test.false))

pub returns-clause-entering : goal.returns-clause-entering
returns-clause-entering g c =
    rows_all c.args.none c.args.marks.now c.args.self.now.entering c.loop-i.i c.loop-i.rows.entering c.loop-i.invariant.entering (omega (arith, c.loop-i-test.false))

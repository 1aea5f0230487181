use Rattle.path_factors.proofs.Words.{arith}
use Rattle.path_factors.proofs.Setting.{blanked_none, blanked_more, row_kept, rows_kept}
use Rattle.path_factors.proofs.packed.PackedRows.blank_row.Goals as goal

pub loop-j-init : goal.loop-j-init
loop-j-init g c = record {
  leaving = blanked_none c.args.none c.args.i c.args.self.now.leaving;
  entering = blanked_none c.args.none c.args.i c.args.self.now.entering;
}

pub loop-j-preserved : goal.loop-j-preserved
loop-j-preserved g c = record {
  leaving = blanked_more c.args.none c.args.i c.args.self.now.leaving c.loop-j.j c.loop-j.self.leaving c.blank_link.new.self.leaving
      c.loop-j.invariant.leaving c.blank_link.ensures.leaving;
  entering = blanked_more c.args.none c.args.i c.args.self.now.entering c.loop-j.j c.loop-j.self.entering c.blank_link.new.self.entering
      c.loop-j.invariant.entering c.blank_link.ensures.entering;
}

pub blank_link-requires-clause-row : goal.blank_link-requires-clause-row
blank_link-requires-clause-row g c =
    let n = rows_kept c.args.none c.args.i c.args.self.now.leaving c.loop-j.self.leaving c.loop-j.invariant.leaving.heads in
    omega (arith, n, c.requires)

pub blank_link-requires-clause-index : goal.blank_link-requires-clause-index
blank_link-requires-clause-index g c =
    let n = row_kept c.args.none c.args.i c.args.self.now.leaving c.loop-j.self.leaving c.loop-j.invariant.leaving.heads in
    omega (arith, n, c.loop-j-test.true, c.count-j-end.ensures.leaving)

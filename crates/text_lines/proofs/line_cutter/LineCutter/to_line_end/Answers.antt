use Rattle.std.proofs.Common.{◌<◌, ◌+◌, List, ℕ, length, arith}
use Rattle.text_lines.proofs.CutterLaws.{run_on, byte_on, line_ends}
use Rattle.text_lines.proofs.line_cutter.LineCutter.to_line_end.Goals as goal

pub returns-then-byte-eq10-clause-cut : goal.returns-then-byte-eq10-clause-cut
returns-then-byte-eq10-clause-cut g c =
    let xs : List ℕ = c.args.bytes.now in
    let so_far = g.T.FieldTaker.so_far in
    let run = c.prefix_run-at in
    let lt : c.loop-at.at + run.result < length xs = omega (arith, c.loop-at.invariant.within, run.ensures.bound, c.if-at-bytes.false) in
    line_ends so_far c.args.self.now xs run.new.self c.end_line.new.self (c.loop-at.at + run.result) lt c.if-byte-eq10.true
    (run_on so_far c.args.self.now xs c.loop-at.self run.new.self c.loop-at.at run.result c.loop-at.invariant.present run.ensures.present) c.end_line.ensures.line

pub loop-at-preserved : goal.loop-at-preserved
loop-at-preserved g c =
    let xs : List ℕ = c.args.bytes.now in
    let so_far = g.T.FieldTaker.so_far in
    let run = c.prefix_run-at in
    let lt : c.loop-at.at + run.result < length xs = omega (arith, c.loop-at.invariant.within, run.ensures.bound, c.if-at-bytes.false) in
    record {
      present = byte_on so_far c.args.self.now xs run.new.self c.present_byte.new.self (c.loop-at.at + run.result) lt
          (run_on so_far c.args.self.now xs c.loop-at.self run.new.self c.loop-at.at run.result c.loop-at.invariant.present run.ensures.present) c.present_byte.ensures.present;
      kept = g.met.T.FieldTaker.kept_on _ _ _ c.loop-at.invariant.kept (rw run.ensures.taker at c.present_byte.ensures.kept);
      within = omega (arith, lt);
    }

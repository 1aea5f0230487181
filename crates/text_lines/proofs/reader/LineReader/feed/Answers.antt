use Rattle.text_lines.proofs.Words.{List, ℕ, ◌+◌, arith, take_all}
use Rattle.text_lines.proofs.ReaderLaws.{halts_in, rest_gives_further}
use Rattle.text_lines.proofs.reader.LineReader.feed.Goals as goal

pub returns-then-at-bytes-clause-ok : goal.returns-then-at-bytes-clause-ok
returns-then-at-bytes-clause-ok g c =
    let xs : List ℕ = c.args.bytes.now in
    let lines = c.short_lines-at in
    let one = rest_gives_further g.T.LineParser.meaning c.args.self.now c.loop-at.self lines.new.self xs c.loop-at.at lines.result c.loop-at.invariant.rest_gives lines.ensures.rest_gives in
    λ cut rest r h. rw (← take_all (c.loop-at.at + lines.result) xs (omega (arith, c.if-at-bytes.true))) (one cut rest r h)

pub loop-at-preserved : goal.loop-at-preserved
loop-at-preserved g c =
    let meaning = g.T.LineParser.meaning in
    let xs : List ℕ = c.args.bytes.now in
    let lines = c.short_lines-at in
    let one = rest_gives_further meaning c.args.self.now c.loop-at.self lines.new.self xs c.loop-at.at lines.result c.loop-at.invariant.rest_gives lines.ensures.rest_gives in
    record {
      rest_gives = rest_gives_further meaning c.args.self.now lines.new.self c.next_line.new.self xs (c.loop-at.at + lines.result) c.in-Ok.taken one c.in-Ok.ensures.rest_gives;
      count = omega (arith, c.in-Ok.ensures.count, lines.ensures.count, c.loop-at.invariant.count);
      given = c.in-Ok.ensures.given;
      within = omega (arith, c.loop-at.invariant.within, lines.ensures.bound, c.in-Ok.ensures.bound.1);
    }

pub returns-in-Err-clause-err : goal.returns-in-Err-clause-err
returns-in-Err-clause-err g c =
    let meaning = g.T.LineParser.meaning in
    let xs : List ℕ = c.args.bytes.now in
    let lines = c.short_lines-at in
    let one = rest_gives_further meaning c.args.self.now c.loop-at.self lines.new.self xs c.loop-at.at lines.result c.loop-at.invariant.rest_gives lines.ensures.rest_gives in
    halts_in meaning c.args.self.now lines.new.self xs (c.loop-at.at + lines.result) (omega (arith, c.loop-at.invariant.within, lines.ensures.bound)) one
    (omega (arith, lines.ensures.count, c.loop-at.invariant.count)) c.in-Err.halt c.in-Err.ensures.err

pub returns-clause-ok : goal.returns-clause-ok
returns-clause-ok g c = λ cut rest r h. rw (← take_all c.loop-at.at c.args.bytes.now c.loop-at-test.false) (c.loop-at.invariant.rest_gives cut rest r h)

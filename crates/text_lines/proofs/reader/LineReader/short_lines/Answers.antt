use Rattle.std.proofs.Common.{List, ℕ, arith, ◌∙◌}
use Rattle.text_lines.proofs.ReaderLaws.{rest_gives_further}
use Rattle.text_lines.proofs.reader.LineReader.short_lines.Goals as goal

pub loop-at-preserved : goal.loop-at-preserved
loop-at-preserved g c =
    let xs : List ℕ = c.args.bytes.now in
    let old = c.loop-at.invariant in
    record {
      rest_gives = rest_gives_further g.T.LineParser.meaning c.args.self.now c.loop-at.self c.short_line-len.new.self xs c.loop-at.at c.short_line-len.result old.rest_gives
          c.short_line-len.ensures.rest_gives;
      count = omega (arith, c.short_line-len.ensures.count, old.count);
      given = c.short_line-len.ensures.given ∙ old.given;
      within = omega (arith, c.short_line-len.ensures.bound);
    }

pub returns-then-len-eq0-clause-rest_gives : goal.returns-then-len-eq0-clause-rest_gives
returns-then-len-eq0-clause-rest_gives g c = λ cut more r h. c.loop-at.invariant.rest_gives cut more r (rw (c.if-len-eq0.true) at (c.short_line-len.ensures.rest_gives cut more r h))

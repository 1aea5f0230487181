use Rattle.text_lines.proofs.Words.{refl, common_steps, [], ℕ, take, arith, ◌∙◌, subst, length-take-le, Consumes, IsAtEnd}
use Rattle.text_lines.proofs.ReadingLaws.{has_read_start, has_read_more, has_read_value, has_read_some, stops_at_end, stops_in, some_stops_at_end, some_stops_in, fails_after, stops_after_in, stops_after_end}
use Rattle.std.proofs.lemmas.Result.{IfOk-weaker, IfErr-weaker, err_from_is_err_and}
use Rattle.text_lines.proofs.reading.read_text.Goals as goal

pub loop-init : goal.loop-init
loop-init g c = record {
  has_read = has_read_start g.T.LineParser.meaning c.args.parser _ c.new-reader.result c.new-reader.ensures.count c.new-reader.ensures.start;
  sound = refl;
  counted = omega arith;
  asked = omega arith;
  given = c.new-reader.ensures.given;
}

pub loop-preserved : goal.loop-preserved
loop-preserved g c = record {
  has_read = has_read_more g.T.LineParser.meaning c.args.parser _ _ _ c.loop.reader c.feed.new.self _ c.loop.invariant.has_read c.in-Ok.ensures.bytes.0
      c.in_ok-feed-in-Ok.ensures.count c.in_ok-feed-in-Ok.ensures.ok;
  sound = c.in-Ok.ensures.sound ∙ c.loop.invariant.sound;
  counted = omega (arith, c.in-Ok.ensures.counted, c.loop.invariant.counted);
  given = c.in_ok-feed-in-Ok.ensures.given;
  asked = omega (arith, c.in_ok-feed-in-Ok.ensures.count, length-take-le c.in-Ok.n c.read.new.buf c.in-Ok.ensures.bound, c.in-Ok.n-test);
}

pub returns-in-Ok-eq0-clause-value : goal.returns-in-Ok-eq0-clause-value
returns-in-Ok-eq0-clause-value g c =
    let gone : Consumes (g.R.RoadRead.seen c.loop.from).left (g.R.RoadRead.seen c.read.new.self).left [] =
    subst (λ (n : ℕ). Consumes (g.R.RoadRead.seen c.loop.from).left (g.R.RoadRead.seen c.read.new.self).left (take n c.read.new.buf)) c.in-Ok-eq0.field-0-test c.in-Ok-eq0.ensures.bytes.0 in
    let ended : IsAtEnd (g.R.RoadRead.seen c.read.new.self).left = c.in-Ok-eq0.ensures.bytes.1 c.in-Ok-eq0.field-0-test
    (omega (arith, c.next_piece.ensures.some, length-take-le c.next_piece.result c.loop.buffer (omega (arith, c.next_piece.ensures.bound)))) in
    IfOk-weaker c.finish.result _ _ (λ v h. has_read_value g.T.LineParser.meaning c.args.parser _ _ _ c.loop.reader v c.loop.reader.few_bytes c.loop.invariant.has_read gone ended
    h) c.finish.ensures.ok

pub returns-in-Ok-eq0-clause-stops : goal.returns-in-Ok-eq0-clause-stops
returns-in-Ok-eq0-clause-stops g c =
    let gone : Consumes (g.R.RoadRead.seen c.loop.from).left (g.R.RoadRead.seen c.read.new.self).left [] =
    subst (λ (n : ℕ). Consumes (g.R.RoadRead.seen c.loop.from).left (g.R.RoadRead.seen c.read.new.self).left (take n c.read.new.buf)) c.in-Ok-eq0.field-0-test c.in-Ok-eq0.ensures.bytes.0 in
    let ended : IsAtEnd (g.R.RoadRead.seen c.read.new.self).left = c.in-Ok-eq0.ensures.bytes.1 c.in-Ok-eq0.field-0-test
    (omega (arith, c.next_piece.ensures.some, length-take-le c.next_piece.result c.loop.buffer (omega (arith, c.next_piece.ensures.bound)))) in
    IfErr-weaker c.finish.result _ _ (λ h p. stops_at_end g.T.LineParser.meaning c.args.parser _ _ _ _ _ c.loop.reader h c.loop.reader.few_bytes
    (c.in-Ok-eq0.ensures.sound ∙ c.loop.invariant.sound) c.loop.invariant.has_read gone ended p) c.finish.ensures.err

pub returns-in_err-feed-in-Ok-clause-stops : goal.returns-in_err-feed-in-Ok-clause-stops
returns-in_err-feed-in-Ok-clause-stops g c = let p = err_from_is_err_and c.from_residual.result c.from_residual.ensures.1 in
    rw (p.1, p.2) (stops_in g.T.LineParser.meaning c.args.parser _ _ _ _ _ c.loop.reader _ _
    (c.in-Ok.ensures.sound ∙ c.loop.invariant.sound) c.loop.invariant.has_read c.in-Ok.ensures.bytes.0 c.in_err-feed-in-Ok.ensures.err)

pub returns-in-Ok-eq0-clause-some_text : goal.returns-in-Ok-eq0-clause-some_text
returns-in-Ok-eq0-clause-some_text g c = IfOk-weaker c.finish.result _ _ (λ v h. has_read_some g.T.LineParser.meaning c.args.parser _ _ c.loop.reader v c.loop.reader.few_bytes
    c.loop.invariant.has_read h) c.finish.ensures.ok

pub returns-in-Ok-eq0-clause-some_stops : goal.returns-in-Ok-eq0-clause-some_stops
returns-in-Ok-eq0-clause-some_stops g c = IfErr-weaker c.finish.result _ _ (λ h p. some_stops_at_end g.T.LineParser.meaning c.args.parser _ _ c.loop.reader h
    c.loop.reader.few_bytes c.loop.invariant.has_read p) c.finish.ensures.err

pub returns-in_err-feed-in-Ok-clause-some_stops : goal.returns-in_err-feed-in-Ok-clause-some_stops
returns-in_err-feed-in-Ok-clause-some_stops g c = let p = err_from_is_err_and c.from_residual.result c.from_residual.ensures.1 in
    rw (p.1, p.2) (some_stops_in g.T.LineParser.meaning c.args.parser _ _ c.loop.reader _ _ c.loop.invariant.has_read c.in_err-feed-in-Ok.ensures.err)

pub returns-in-Err-clause-value : goal.returns-in-Err-clause-value
returns-in-Err-clause-value g c = grind (arith, common_steps)

pub returns-in-Err-clause-stops_after : goal.returns-in-Err-clause-stops_after
returns-in-Err-clause-stops_after g c = (
  omega (arith, c.in-Err.ensures.failed, c.loop.invariant.sound),
  fails_after g.T.LineParser.meaning c.args.parser g.met.T.LineParser.stops_short _ _ _ c.loop.reader
      c.loop.invariant.has_read c.in-Err.ensures.bytes,
)

pub returns-in-Ok-eq0-clause-stops_after : goal.returns-in-Ok-eq0-clause-stops_after
returns-in-Ok-eq0-clause-stops_after g c =
    let gone : Consumes (g.R.RoadRead.seen c.loop.from).left (g.R.RoadRead.seen c.read.new.self).left [] =
    subst (λ (n : ℕ). Consumes (g.R.RoadRead.seen c.loop.from).left (g.R.RoadRead.seen c.read.new.self).left (take n c.read.new.buf)) c.in-Ok-eq0.field-0-test c.in-Ok-eq0.ensures.bytes.0 in
    IfErr-weaker c.finish.result _ _ (λ h p. stops_after_end g.T.LineParser.meaning c.args.parser g.met.T.LineParser.stops_short _ _ _ _ _ c.loop.reader h c.loop.reader.few_bytes
    c.loop.invariant.has_read gone p) c.finish.ensures.err

pub returns-in_err-feed-in-Ok-clause-stops_after : goal.returns-in_err-feed-in-Ok-clause-stops_after
returns-in_err-feed-in-Ok-clause-stops_after g c =
    let p = err_from_is_err_and c.from_residual.result c.from_residual.ensures.1 in
    let asked = length-take-le c.next_piece.result c.loop.buffer (omega (arith, c.next_piece.ensures.bound)) in
    let taken = length-take-le c.in-Ok.n c.read.new.buf c.in-Ok.ensures.bound in
    rw (p.1, p.2) (stops_after_in g.T.LineParser.meaning c.args.parser g.met.T.LineParser.stops_short _ _ _ _ _ c.loop.reader _ _ c.loop.invariant.has_read c.in-Ok.ensures.bytes.0
    (omega (arith, asked, taken, c.in-Ok.ensures.bound, c.next_piece.ensures.bound))
    (λ some. omega (arith, asked, taken, c.in-Ok.ensures.bound, c.next_piece.ensures.fits some)) c.in_err-feed-in-Ok.ensures.err)

use Rattle.text_lines.proofs.Words.{◌≡◌, ◌≤◌, ◌+◌, false, HasRead}
use Rattle.text_lines.proofs.reading.read_text.Given as goal

-- the reader has taken what was read, no read failed, and each read gave a byte
abbrev pub invariant-loop : goal.invariant-loop
invariant-loop g l = record {
  has_read : HasRead g.T.LineParser.meaning l.fn.parser (g.R.RoadRead.seen l.initial.from).left (g.R.RoadRead.seen l.from).left l.reader;
  sound : (g.R.RoadRead.seen l.from).failures ≡ (g.R.RoadRead.seen l.initial.from).failures;
  counted : (g.R.RoadRead.seen l.from).asked ≡ (g.R.RoadRead.seen l.initial.from).asked + l.counter;
  asked : l.counter ≤ l.reader.count;
  given : l.reader.cutter.taker.refused ≡ false;
}

use Rattle.std.proofs.Common.{[]}
use Rattle.text_lines.proofs.reader.LineReader.new.Goals as goal

pub returns-clause-start : goal.returns-clause-start
returns-clause-start g c = λ cut bytes r h. rw c.new.ensures.taker at (h [] (c.new.ensures.present (λ e. c.requires)))

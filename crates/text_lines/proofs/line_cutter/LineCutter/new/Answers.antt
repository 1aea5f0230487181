use Rattle.text_lines.proofs.TextLaws.{holds_start}
use Rattle.text_lines.proofs.line_cutter.LineCutter.new.Goals as goal

pub returns-clause-present : goal.returns-clause-present
returns-clause-present g c = λ h. rw c.new.ensures (holds_start (g.T.FieldTaker.so_far c.args.taker) h)

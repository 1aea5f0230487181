use Rattle.std.proofs.Common.{map}
use Rattle.text_lines.specs.Texts.{text_of}
use Rattle.text_lines.specs.Written.{WrotePrefix}
use Rattle.text_lines.proofs.WriteLaws.{lines_from}
use Rattle.order_files.specs.WrittenOrders.{place_words}
use Rattle.order_files.proofs.writing.write_places.Given as goal

abbrev pub invariant-loop-i : goal.invariant-loop-i
invariant-loop-i g l = WrotePrefix (g.W.RoadWrite.seen l.fn.to) (g.W.RoadWrite.seen l.to) (text_of (map place_words l.places)) (lines_from place_words l.i l.places)

use Rattle.graph_text.proofs.Words.{map, text_of, WrotePrefix, arc_words}
use Rattle.text_lines.proofs.WriteLaws.{lines_from}
use Rattle.graph_text.proofs.writing.write_arcs.Given as goal

abbrev pub invariant-loop-number : goal.invariant-loop-number
invariant-loop-number g l = WrotePrefix (g.W.RoadWrite.seen l.fn.to) (g.W.RoadWrite.seen l.to)
    (text_of (map arc_words l.graph.arcs)) (lines_from arc_words l.number l.graph.arcs)

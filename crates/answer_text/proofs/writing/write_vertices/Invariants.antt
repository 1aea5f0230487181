use Rattle.answer_text.proofs.Words.{◌≡◌, WrotePrefix, text_of, vertex_lines}
use Rattle.answer_text.proofs.VertexLines.{vertices_from}
use Rattle.answer_text.proofs.writing.write_vertices.Given as goal

abbrev pub invariant-loop-line : goal.invariant-loop-line
invariant-loop-line g l = record {
  vertex : l.vertex ≡ l.line-index;
  left : WrotePrefix (g.W.RoadWrite.seen l.fn.to) (g.W.RoadWrite.seen l.to)
      (text_of (vertex_lines 1 l.lines)) (vertices_from l.line-index l.lines);
}

use Rattle.batch_run.proofs.Words.{WrotePrefix, written_lines}
use Rattle.text_lines.specs.Texts.{text_of}
use Rattle.answer_text.specs.AnswerText.{vertex_lines}
use Rattle.answer_text.proofs.VertexLines.{vertices_from}
use Rattle.batch_run.proofs.write.lines.write_lines.Given as goal

abbrev pub invariant-loop-v : goal.invariant-loop-v
invariant-loop-v g l =
    let lines = written_lines (g.A.PathAlgebra.meaning l.algebra) l.labels l.tree l.fn.n in
    WrotePrefix (g.W.RoadWrite.seen l.fn.to) (g.W.RoadWrite.seen l.to) (text_of (vertex_lines 1 lines)) (vertices_from l.v lines)

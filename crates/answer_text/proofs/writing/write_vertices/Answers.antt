use Rattle.answer_text.proofs.Words.{refl, subst, sym, arith, WrotePrefix}
use Rattle.text_lines.proofs.WriteLaws.{left_start, left_end, fell_out}
use Rattle.answer_text.proofs.VertexLines.{vertices_start, vertices_end, vertex_left, vertex_fell}
use Rattle.answer_text.proofs.writing.write_vertices.Goals as goal

pub loop-line-init : goal.loop-line-init
loop-line-init g c = record { vertex = refl; left = subst (WrotePrefix _ _ _) (sym (vertices_start c.args.lines.now)) (left_start _ _) }

pub loop-line-preserved : goal.loop-line-preserved
loop-line-preserved g c = record {
  vertex = omega arith;
  left = vertex_left _ _ _ _ _ c.args.lines.now c.loop-line.line-index c.loop-line.vertex _ c.loop-line-test.true c.loop-line.invariant.vertex refl c.loop-line.invariant.left
      c.in_ok-write_vertex_line.ensures;
}

pub returns-in_err-write_vertex_line : goal.returns-in_err-write_vertex_line
returns-in_err-write_vertex_line g c = fell_out _ _ _ _ c.from_residual.result c.from_residual.ensures.1
    (vertex_fell _ _ _ _ _ c.args.lines.now c.loop-line.line-index c.loop-line.vertex _ c.loop-line-test.true c.loop-line.invariant.vertex refl c.loop-line.invariant.left
    c.in_err-write_vertex_line.ensures)

pub returns : goal.returns
returns g c = left_end _ _ _ _ (vertices_end c.loop-line.line-index c.args.lines.now c.loop-line-test.false) c.loop-line.invariant.left

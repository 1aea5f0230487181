use Rattle.batch_run.proofs.Words.{◌+◌, ◌<◌, length, None, rules, subst, sym, ap, arith, WrotePrefix, written_lines}
use Rattle.text_lines.specs.Texts.{spelled}
use Rattle.text_lines.proofs.WriteLaws.{left_start, left_end, fell_out}
use Rattle.answer_text.specs.AnswerText.{vertex_words}
use Rattle.answer_text.proofs.VertexLines.{vertices_start, vertices_end, vertex_left, vertex_fell}
use Rattle.batch_run.proofs.WrittenLines.{lines_count, line_is}
use Rattle.batch_run.proofs.write.lines.write_lines.Goals as goal

pub loop-v-init : goal.loop-v-init
loop-v-init g c =
    let lines = written_lines (g.A.PathAlgebra.meaning c.args.algebra) c.args.labels.now c.args.tree.now c.args.n in
    subst (WrotePrefix _ _ _) (sym (vertices_start lines)) (left_start _ _)

pub loop-v-preserved : goal.loop-v-preserved
loop-v-preserved g c =
    let A = g.A.PathAlgebra.meaning c.args.algebra in
    let lines = written_lines A c.args.labels.now c.args.tree.now c.args.n in
    let lt : c.loop-v.v < c.args.n = search rules in
    let within : c.loop-v.v < length lines = rw (lines_count A c.args.labels.now c.args.tree.now c.args.n) lt in
    let line = line_is A c.args.labels.now c.args.tree.now c.args.n c.loop-v.v (c.loop-v.v + 1) c.line_of-line.result _ _ _ lt
    (omega arith) c.line_of-line.ensures c.of.ensures c.hops-hops.ensures c.parent-parent.ensures in
    vertex_left _ _ _ _ _ lines c.loop-v.v c.from.result None within c.from.ensures
    (ap (λ l. spelled (vertex_words (c.from.result + 1) l)) line) c.loop-v.invariant c.in_ok-write_vertex_line.ensures

pub returns-in_err-write_vertex_line : goal.returns-in_err-write_vertex_line
returns-in_err-write_vertex_line g c =
    let A = g.A.PathAlgebra.meaning c.args.algebra in
    let lines = written_lines A c.args.labels.now c.args.tree.now c.args.n in
    let lt : c.loop-v.v < c.args.n = search rules in
    let within : c.loop-v.v < length lines = rw (lines_count A c.args.labels.now c.args.tree.now c.args.n) lt in
    let line = line_is A c.args.labels.now c.args.tree.now c.args.n c.loop-v.v (c.loop-v.v + 1) c.line_of-line.result _ _ _ lt
    (omega arith) c.line_of-line.ensures c.of.ensures c.hops-hops.ensures c.parent-parent.ensures in
    fell_out _ _ _ _ c.from_residual.result c.from_residual.ensures.1 (vertex_fell _ _ _ _ _ lines c.loop-v.v c.from.result None within c.from.ensures
    (ap (λ l. spelled (vertex_words (c.from.result + 1) l)) line) c.loop-v.invariant c.in_err-write_vertex_line.ensures)

pub returns : goal.returns
returns g c =
    let A = g.A.PathAlgebra.meaning c.args.algebra in
    let count = lines_count A c.args.labels.now c.args.tree.now c.args.n in
    left_end _ _ _ _ (vertices_end c.loop-v.v (written_lines A c.args.labels.now c.args.tree.now c.args.n) (omega (arith, count, c.loop-v-test.false))) c.loop-v.invariant

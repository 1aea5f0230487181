use Rattle.graph_text.proofs.Words.{◌∙◌, ◌<◌, ◌≤◌, ap, length, arith, RoadArc, spelled, arc_words}
use Rattle.text_lines.proofs.WriteLaws.{lines_start, line_left, line_fell, lines_end, fell_out}
use Rattle.graph_text.proofs.WrittenGraphs.{arc_at}
use Rattle.graph_text.proofs.writing.write_arcs.Goals as goal

pub loop-number-init : goal.loop-number-init
loop-number-init g c = lines_start arc_words _ c.args.graph.now.arcs

pub loop-number-preserved : goal.loop-number-preserved
loop-number-preserved g c =
    let inside : c.loop-number.number < length c.args.graph.now.arcs = omega (arith, c.arcs-number-end.ensures, c.loop-number-test.true) in
    line_left arc_words _ _ _ _ _ c.args.graph.now.arcs c.loop-number.number _ inside
    (c.as_bytes.ensures.value ∙ c.as_str.ensures.value ∙ c.fill_arc.ensures ∙ ap (λ (a : RoadArc). spelled (arc_words a))
    (c.arc.ensures ∙ arc_at c.args.graph.now c.loop-number.number)) c.loop-number.invariant c.in_ok-write_bytes.ensures

pub returns-in_err-write_bytes : goal.returns-in_err-write_bytes
returns-in_err-write_bytes g c =
    let inside : c.loop-number.number < length c.args.graph.now.arcs = omega (arith, c.arcs-number-end.ensures, c.loop-number-test.true) in
    fell_out _ _ _ _ c.from_residual.result c.from_residual.ensures.1 (line_fell arc_words _ _ _ _ _ c.args.graph.now.arcs c.loop-number.number _ inside
    (c.as_bytes.ensures.value ∙ c.as_str.ensures.value ∙ c.fill_arc.ensures ∙ ap (λ (a : RoadArc). spelled (arc_words a))
    (c.arc.ensures ∙ arc_at c.args.graph.now c.loop-number.number)) c.loop-number.invariant c.in_err-write_bytes.ensures)

pub returns : goal.returns
returns g c =
    let past : length c.args.graph.now.arcs ≤ c.loop-number.number = omega (arith, c.arcs-number-end.ensures, c.loop-number-test.false) in
    lines_end arc_words _ _ _ c.loop-number.number c.args.graph.now.arcs past c.loop-number.invariant

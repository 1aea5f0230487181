use Rattle.answer_check.proofs.Words.{rules, ◌≡◌, length, arith, IfOk-then}
use Rattle.answer_check.proofs.FirstWrong.{source_judged}
use Rattle.answer_check.proofs.answers.judge_source.Goals as goal

pub returns : goal.returns
returns g c =
    let view : c.source.inside.0 ≡ c.args.source = c.source.view_is in
    let same : c.in-Source.named ≡ c.args.source = omega arith in
    let count : length c.in-Source.lines.items ≡ c.args.case.now.graph.now.vertices = search rules in
    rw c.in-Source.is (IfOk-then c.judge_lines.result _ _ c.judge_lines.ensures (source_judged (g.A.PathAlgebra.meaning c.args.case.now.algebra) c.args.case.now.graph.now c.args.source c.in-Source.named
    c.in-Source.lines.items same count))

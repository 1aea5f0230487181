use Rattle.answer_check.proofs.Words.{rules, ◌≡◌, length, sym, ◌∙◌, true, IfOk-then}
use Rattle.answer_check.proofs.FirstWrong.{sources_judged}
use Rattle.answer_check.proofs.answers.judge_sources.Goals as goal

pub returns : goal.returns
returns g c =
    let yes_they_are : c.are_same.result ≡ true = search rules in
    let same : c.in-Multi.named.items ≡ c.args.sources.now = sym c.as_slice.ensures.value ∙ sym (c.are_same.ensures.0 yes_they_are) in
    let count : length c.in-Multi.lines.items ≡ c.args.case.now.graph.now.vertices = search rules in
    rw c.in-Multi.is (IfOk-then c.judge_lines.result _ _ c.judge_lines.ensures (sources_judged (g.A.PathAlgebra.meaning c.args.case.now.algebra) c.args.case.now.graph.now c.args.sources.now c.in-Multi.named.items
    c.in-Multi.lines.items same count))

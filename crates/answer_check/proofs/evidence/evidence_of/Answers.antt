use Rattle.answer_check.proofs.Words.{rules, ◌≡◌, ◌<◌, ◌∙◌, length, sym, ap, take, Option, Reached, Evidence}
use Rattle.answer_check.specs.Evidence.{candidate_from, evidence_by, evidence_of, all_evidence, either}
use Rattle.answer_check.proofs.EvidenceAdds.{all_evidence_more}
use Rattle.answer_check.proofs.evidence.evidence_of.Goals as goal

pub loop-road-preserved : goal.loop-road-preserved
loop-road-preserved g c =
    let a = c.args in
    let A = g.A.PathAlgebra.meaning a.algebra in
    let lines = g.L.VertexLines.list a.lines.now in
    let i = c.loop-road.road-index in
    let r = c.road-item.result in
    let lt : i < length a.roads.now = search rules in
    let more = all_evidence_more A g.A.PathAlgebra.order lines a.line a.value a.roads.now i r lt c.road-item.is in
    let shown : c.evidence_by.result ≡ evidence_of A g.A.PathAlgebra.order lines a.line a.value r =
    c.evidence_by.ensures ∙ ap (evidence_by g.A.PathAlgebra.order r.head a.line a.value)
    (c.candidate-candidate.ensures ∙ ap (λ (near : Option Reached). candidate_from A near r.weight) c.line_of.ensures) in
    c.or-evidence.ensures ∙ ap (λ (s : Evidence). either s c.evidence_by.result) c.loop-road.invariant
    ∙ ap (λ (t : Evidence). either (all_evidence A g.A.PathAlgebra.order lines a.line a.value (take i a.roads.now)) t) shown ∙ sym more

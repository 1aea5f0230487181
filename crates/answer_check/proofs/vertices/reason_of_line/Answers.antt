use Rattle.answer_check.proofs.Words.{rules, ◌≡◌, Some, None, sym, ◌∙◌, arith, common_steps, label_of, decoded}
use Rattle.answer_check.proofs.Entering.{ends_inside}
use Rattle.answer_check.proofs.EvidenceMeans.{evidence_judges, walk_judged, walk_missed, decoded_is}
use Rattle.answer_check.proofs.vertices.reason_of_line.Goals as goal

pub offers_some-has_walk-requires-clause-ends : goal.offers_some-has_walk-requires-clause-ends
offers_some-has_walk-requires-clause-ends g c κs within = ends_inside c.args.by_head.now c.holds.ensures c.args.v _ c.requires.count c.roads_into-roads.result.now c.roads_into-roads.ensures

pub evidence_of-requires-clause-ends : goal.evidence_of-requires-clause-ends
evidence_of-requires-clause-ends g c κs within = ends_inside c.args.by_head.now c.holds.ensures c.args.v _ c.requires.count c.roads_into-roads.result.now c.roads_into-roads.ensures

pub returns-then-has_walk : goal.returns-then-has_walk
returns-then-has_walk g c =
    let lines = g.L.VertexLines.list c.args.lines.now in
    let here : label_of lines c.args.v ≡ None = sym c.line_of.ensures ∙ c.in_default.is in
    rw here (walk_judged (g.A.PathAlgebra.meaning c.args.algebra) c.laws_hold.ensures.lawful c.args.by_head.now lines c.args.v c.roads_into-roads.result.now c.roads_into-roads.ensures
    (sym c.offers_some-has_walk.ensures ∙ c.if-has_walk.true))

pub returns-else-has_walk : goal.returns-else-has_walk
returns-else-has_walk g c =
    let lines = g.L.VertexLines.list c.args.lines.now in
    let here : label_of lines c.args.v ≡ None = sym c.line_of.ensures ∙ c.in_default.is in
    rw here (walk_missed (g.A.PathAlgebra.meaning c.args.algebra) c.laws_hold.ensures.lawful c.args.by_head.now lines c.args.v c.roads_into-roads.result.now c.roads_into-roads.ensures
    (sym c.offers_some-has_walk.ensures ∙ c.if-has_walk.false))

pub returns-in-Some-value_told : goal.returns-in-Some-value_told
returns-in-Some-value_told g c =
    let A = g.A.PathAlgebra.meaning c.args.algebra in
    let lines = g.L.VertexLines.list c.args.lines.now in
    let here : label_of lines c.args.v ≡ Some c.in-Some.line = sym c.line_of.ensures ∙ c.in-Some.is in
    let told : decoded A c.in-Some.line.code ≡ Some c.in-Some-value_told.value = search rules in
    let code = decoded_is A c.laws_hold.ensures.lawful c.in-Some.line.code c.in-Some-value_told.value told in
    let judged = evidence_judges A c.laws_hold.ensures.lawful c.args.by_head.now lines c.args.v c.roads_into-roads.result.now c.roads_into-roads.ensures c.in-Some.line c.in-Some-value_told.value code in
    rw (here, c.reason.ensures, c.evidence_of.ensures, ← c.laws_hold.ensures.order) judged

pub returns-in-None : goal.returns-in-None
returns-in-None g c = grind (arith, common_steps)

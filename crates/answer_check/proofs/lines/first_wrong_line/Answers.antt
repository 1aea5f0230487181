use Rattle.answer_check.proofs.Words.{ℕ, ◌≤◌, ◌↔◌, Contains, IsTrue, arith, is_marked, all_inside}
use Rattle.answer_check.proofs.FirstPlaces.{lines_judged}
use Rattle.answer_check.proofs.lines.first_wrong_line.Goals as goal

pub returns : goal.returns
returns g c =
    let marked : (v : ℕ) → 1 ≤ v → v ≤ c.args.by_head.now.vertices → IsTrue (is_marked c.deref.result.now v) ↔ Contains c.args.sources.now v =
    λ v low high. rw c.deref.ensures.value (c.in_ok-marks.ensures.marks v low (omega (arith, high, c.vertices.ensures.count))) in
    lines_judged (g.A.PathAlgebra.meaning c.args.algebra) c.laws_hold.ensures.lawful c.args.by_head.now (g.L.VertexLines.list c.args.lines.now) c.vertices.ensures.roads c.args.sources.now
    (all_inside c.args.by_head.now c.args.sources.now c.requires.inside) c.requires.count c.deref.result.now marked c.first_place.result c.first_place.ensures

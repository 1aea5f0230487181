use Rattle.answer_check.proofs.Words.{ℕ, ◌≤◌, ◌↔◌, Contains, IsTrue, arith, is_marked, all_inside}
use Rattle.answer_check.proofs.FirstPlaces.{lines_judged}
use Rattle.answer_check.proofs.lines.judge_lines.Goals as goal

pub returns : goal.returns
returns g c =
    let case = c.args.case.now in
    let inside = rw (← case.same) at c.requires.inside in
    let count = rw (← case.same) at c.requires.count in
    let marked : (v : ℕ) → 1 ≤ v → v ≤ case.by_head.now.vertices → IsTrue (is_marked c.deref-2.result.now v) ↔ Contains c.args.sources.now v =
    λ v low high. rw c.deref-2.ensures.value (c.in_ok-marks.ensures.marks v low (omega (arith, high, c.vertices.ensures.count))) in
    rw (← case.same) (lines_judged (g.A.PathAlgebra.meaning case.algebra) c.laws_hold.ensures.lawful case.by_head.now (g.L.VertexLines.list c.args.lines.now) c.vertices.ensures.roads c.args.sources.now
    (all_inside case.by_head.now c.args.sources.now inside) count c.deref-2.result.now marked c.first_place.result c.first_place.ensures)

use Rattle.std.proofs.Common.{arith}
use Rattle.answer_check.proofs.FirstPlaces.{first_place_is}
use Rattle.answer_check.proofs.pass.first_place.Goals as goal

pub returns-in-Some : goal.returns-in-Some
returns-in-Some g c =
    let a = c.args in
    first_place_is (g.A.PathAlgebra.meaning a.algebra) c.laws_hold.ensures.lawful a.by_head.now (g.L.VertexLines.list a.lines.now) a.marks.now c.loop-i.i c.loop-i.invariant
    (omega (arith, c.loop-i-test.true, c.requires.marks)) c.in-Some.reason c.in-Some.ensures c.vertex.inside.0 c.vertex.view_is

use Rattle.std.proofs.Common.{◌≤◌, ℕ, List, ap, arith, length, drop_of_length-le}
use Rattle.answer_text.proofs.vertex_lines.VertexLine.clear.Goals as goal

pub returns-clause-bytes : goal.returns-clause-bytes
returns-clause-bytes c =
    let all : length c.self.inside.bytes ≤ 96 = omega (arith, c.self.invariant.0) in
    drop_of_length-le c.self.inside.bytes all

pub returns-clause-len : goal.returns-clause-len
returns-clause-len c =
    let all : length c.self.inside.bytes ≤ 96 = omega (arith, c.self.invariant.0) in
    ap (λ (x : List ℕ). length x) (drop_of_length-le c.self.inside.bytes all)

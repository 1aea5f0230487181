use Rattle.std.proofs.Common.{◌≡◌, ℕ, List, ◌+◌, ◌≤◌, decimal, length, drop, arith, ap}
use Rattle.std.proofs.lemmas.List.{length-drop, length-append}
use Rattle.std.proofs.lemmas.Fmt.{length-decimal-le}
use Rattle.answer_text.proofs.vertex_lines.VertexLine.put_number.Goals as goal

pub write_digits-self-inside-requires : goal.write_digits-self-inside-requires
write_digits-self-inside-requires c =
    let short : length (decimal c.args.n) ≤ 20 = length-decimal-le 20 c.args.n (omega arith) (omega (arith, c.ranges.n.fits)) (omega (arith, c.ranges.n.fits)) in
    let room : length (drop c.self.inside.start c.self.inside.bytes) + 20 ≤ 96 = rw c.self.view_is c.requires in
    let left = length-drop c.self.inside.start c.self.inside.bytes in
    (omega (arith, short, room, left, c.self.invariant.0, c.self.invariant.1), omega (arith, c.self.invariant.0, c.self.invariant.1))

pub returns-clause-len : goal.returns-clause-len
returns-clause-len c =
    let short : length (decimal c.args.n) ≤ 20 = length-decimal-le 20 c.args.n (omega arith) (omega (arith, c.ranges.n.fits)) (omega (arith, c.ranges.n.fits)) in
    let joined = length-append (decimal c.args.n) (drop c.self.inside.start c.self.inside.bytes) in
    let old : length (drop c.self.inside.start c.self.inside.bytes) ≡ length c.args.self.now = ap (λ (x : List ℕ). length x) c.self.view_is in
    rw c.write_digits-self-inside.ensures.written (omega (arith, short, joined, old))

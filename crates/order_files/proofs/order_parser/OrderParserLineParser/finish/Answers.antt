use Rattle.std.proofs.Common.{◌≡◌, ◌∙◌, length, ap, arith, refl}
use Rattle.order_files.proofs.OrderLines.{ends}
use Rattle.order_files.proofs.order_parser.OrderParserLineParser.finish.Goals as goal

pub returns-clause-ok : goal.returns-clause-ok
returns-clause-ok c = λ at places noted.
    let s = c.args.self in
    let full : s.order.count ≡ length s.order.vertices.items = c.is_full.ensures.0 c.if-not-is_full.false in
    (rw (ends s places noted (omega (arith, full, s.whole)), c.build.ensures.vertices) refl, ap (λ v. length v.items) c.build.ensures.vertices ∙ s.whole)

use Rattle.std.proofs.Common.{◌<◌, length, sym, ◌∙◌, arith}
use Rattle.std.specs.Prelude.{IsTrue}
use Rattle.order_files.proofs.Placing.{takes_free, refuses_taken, noted_more}
use Rattle.order_files.proofs.order_parser.OrderParser.place_next.Goals as goal

pub returns-then-not-is_free-clause-taken : goal.returns-then-not-is_free-clause-taken
returns-then-not-is_free-clause-taken c = λ places was.
    let s = c.args.self.now in
    refuses_taken places c.args.place (λ none.
    let inside : c.args.place < length s.order.vertices.items = omega (arith, c.requires.place, s.whole) in
    let yes : IsTrue c.is_free.result = c.is_free.ensures.1 (inside, was.placed c.args.place ∙ none) in
    absurd (cc))

pub returns-clause-taken : goal.returns-clause-taken
returns-clause-taken c = λ places was.
    let s = c.args.self.now in
    let free = c.is_free.ensures.0 c.if-not-is_free.false in
    (_, takes_free places c.args.place (sym (was.placed c.args.place) ∙ free.1), noted_more s _ places was c.args.place free.0 free.1 c.place_next.ensures.count c.place_next.ensures.vertices)

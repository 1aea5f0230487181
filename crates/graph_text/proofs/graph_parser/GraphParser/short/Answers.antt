use Rattle.std.proofs.Common.{Some, rules, ◌≡◌}
use Rattle.graph_text.proofs.GraphParserLaws.{short_rule}
use Rattle.graph_text.proofs.graph_parser.GraphParser.short.Goals as goal

pub returns-in-Some-clause-taken : goal.returns-in-Some-clause-taken
returns-in-Some-clause-taken c = λ yes l shown.
    let was : c.args.self.now.taken ≡ Some c.in-Some.taken = search rules in
    short_rule c.args.self.now c.in-Some.taken c.short_arc.new.self l c.args.letter c.args.numbers.0 c.args.numbers.1 c.args.numbers.2 was c.if-letter-ne97.false shown
    (c.short_arc.ensures.joined yes) (c.short_arc.ensures.taken yes)

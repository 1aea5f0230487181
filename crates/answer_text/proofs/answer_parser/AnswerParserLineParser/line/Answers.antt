use Rattle.text_lines.proofs.ParserLaws.{broken_is}
use Rattle.answer_text.proofs.AnswerParserLaws.{line_taken, line_broken}
use Rattle.answer_text.proofs.answer_parser.AnswerParserLineParser.line.Goals as goal

pub returns-clause-ok : goal.returns-clause-ok
returns-clause-ok c = λ cut at l rest r shown h g. line_taken c.args.self.now c.args.slots.now l shown h c.parse_line.new.self cut at rest r c.parse_line.ensures.n c.in-Ok.ensures.rule g

pub returns-in-Err-clause-broken : goal.returns-in-Err-clause-broken
returns-in-Err-clause-broken c = λ rule is cut at l rest shown h. line_broken c.args.self.now c.args.slots.now l shown h cut at rest rule (broken_is _ c.in-Err.fault rule is c.in-Err.ensures.rule)

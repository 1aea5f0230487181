use Rattle.road_files.proofs.Words.{◌∙◌, questions_begun}
use Rattle.text_lines.proofs.ParserLaws.{broken_is}
use Rattle.road_files.proofs.QuestionParserLaws.{line_taken, line_broken}
use Rattle.road_files.proofs.question_parser.QuestionParserLineParser.line.Goals as goal

pub returns-in-Err-clause-broken : goal.returns-in-Err-clause-broken
returns-in-Err-clause-broken c = λ rule is cut at l rest shown h. line_broken c.args.self.now c.args.slots.now l shown h cut at rest rule (broken_is _ c.in-Err.fault rule is c.in-Err.ensures.rule)

pub returns-clause-ok : goal.returns-clause-ok
returns-clause-ok c = λ cut at l rest r shown h g. line_taken c.args.self.now c.args.slots.now l shown h _ _ (questions_begun c.parse_line.new.self) cut at rest r
    (c.restart.ensures.vertices ∙ c.parse_line.ensures.list) c.parse_line.ensures.only c.in-Ok.ensures.rule g

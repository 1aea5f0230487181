use Rattle.road_files.specs.QuestionTakes.{questions_begun}
use Rattle.road_files.proofs.RequestParserLaws.{taken_step, broken_step}
use Rattle.road_files.proofs.request_parser.RequestParser.give.Goals as goal

pub returns-in-Err-Broken-clause-step : goal.returns-in-Err-Broken-clause-step
returns-in-Err-Broken-clause-step c = λ l shown h.
    rw (c.fail-in-Err-Broken.ensures.ended, c.fail-in-Err-Broken.ensures.state)
    (broken_step c.args.self.now.questions c.requires.any c.args.slots.now l shown (h c.if-self.false) c.in-Err-Broken.rule.number (rw c.in-Err-Broken.field-0-is at c.in-Err-Broken.ensures.rule))

pub returns-in-Some-clause-step : goal.returns-in-Some-clause-step
returns-in-Some-clause-step c = λ l shown h. taken_step c.args.self.now.questions c.requires.any c.args.slots.now l shown (h c.if-self.false)
    (questions_begun c.parse_line.new.self) _ c.in-Ok.ensures.rule c.in-Some.ensures.step

pub returns-in-None-clause-step : goal.returns-in-None-clause-step
returns-in-None-clause-step c = λ l shown h. taken_step c.args.self.now.questions c.requires.any c.args.slots.now l shown (h c.if-self.false)
    (questions_begun c.parse_line.new.self) _ c.in-Ok.ensures.rule c.in-None.ensures.step

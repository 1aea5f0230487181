use Rattle.text_lines.proofs.ParserLaws.{reads_text}
use Rattle.answer_text.proofs.Words.{answer_list, answer_rules}
use Rattle.answer_text.specs.AnswerTakes.{answer_meaning}
use Rattle.answer_text.proofs.AnswerParserLaws.{by_value, by_fault}
use Rattle.answer_text.proofs.AnswerNumbers.{answers_line, answers_end}
use Rattle.answer_text.proofs.reading.read_answers.Goals as goal

pub returns : goal.returns
returns g c = let s = c.new.result in let n = c.args.n in let new = c.new.ensures in
    reads_text (answer_rules n) answer_list answer_meaning s (by_value s n new.begun new.n)
    (by_fault s n new.begun new.n) (g.R.RoadRead.seen c.args.from.now) (g.R.RoadRead.seen c.read_whole.new.from) 30 36 (answers_line n) (answers_end n)
    c.read_whole.result c.read_whole.ensures

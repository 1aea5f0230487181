use Rattle.road_files.proofs.Words.{reads_text, reads_sure, asked_of, question_rules}
use Rattle.road_files.specs.QuestionTakes.{question_meaning, FitsFile}
use Rattle.road_files.proofs.QuestionParserLaws.{by_value, by_fault, by_fit}
use Rattle.road_files.proofs.RoadNumbers.{line_of_questions, questions_end}
use Rattle.road_files.proofs.question_files.read_asked.Goals as goal

pub returns-clause-reads : goal.returns-clause-reads
returns-clause-reads g c = let s = c.new.result in let new = c.new.ensures in
    reads_text (question_rules c.args.vertices c.args.only) asked_of question_meaning s (by_value s new.begun _ _ new.vertices new.only) (by_fault s new.begun _ _ new.vertices new.only)
    (g.R.RoadRead.seen c.args.from.now) (g.R.RoadRead.seen c.read_whole.new.from) 10 19 (line_of_questions c.args.vertices c.args.only) questions_end
    c.read_whole.result c.read_whole.ensures

pub returns-clause-fit : goal.returns-clause-fit
returns-clause-fit g c = let s = c.new.result in let e = c.new.ensures in
    reads_sure question_meaning s (FitsFile c.args.vertices c.args.only) (by_fit s e.begun _ _ e.vertices e.only) c.read_whole.result c.read_whole.ensures.some_text

use Rattle.road_files.proofs.Words.{Some, err_from_is_err_and, reads_part, reads_no_part, asked_of, question_rules}
use Rattle.road_files.specs.declared.questions.Kind.TheVariants as kinds
use Rattle.road_files.specs.declared.questions.Questions.TheVariants.{Sources}
use Rattle.road_files.proofs.question_files.read_ss.Goals as goal

pub returns-clause-reads : goal.returns-clause-reads
returns-clause-reads g c = reads_part (g.R.RoadRead.seen c.args.from.now) (g.R.RoadRead.seen c.read_asked.new.from)
    (question_rules c.args.vertices (Some kinds.Sources)) 10 19 asked_of Sources c.sources_of.result
    (rw (← c.sources_of.ensures) c.in_ok-questions.ensures.reads)

pub returns-in_err-questions-clause-reads : goal.returns-in_err-questions-clause-reads
returns-in_err-questions-clause-reads g c = let p = err_from_is_err_and c.from_residual.result c.from_residual.ensures.1 in
    rw (p.1, p.2) (reads_no_part (g.R.RoadRead.seen c.args.from.now) (g.R.RoadRead.seen c.read_asked.new.from)
    (question_rules c.args.vertices (Some kinds.Sources)) 10 19 asked_of Sources _ c.in_err-questions.ensures.reads)

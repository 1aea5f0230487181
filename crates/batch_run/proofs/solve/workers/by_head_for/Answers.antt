use Rattle.question_solvers.proofs.QuestionKinds.{no_pairs}
use Rattle.batch_run.proofs.solve.workers.by_head_for.Goals as goal

pub returns-in_default : goal.returns-in_default
returns-in_default c = λ pairs. absurd (no_pairs c.args.questions.now c.in_default.not-Pairs pairs)

use Rattle.answer_text.proofs.Words.{GraphData, Questions, AnswerList}
use Rattle.answer_text.proofs.RightIsWritable.{right_again}
use Rattle.answer_text.proofs.laws.right_answers_are_read_again.Goals as goal

pub returns : goal.returns
returns g c = λ (g' : GraphData) (q : Questions) (t : AnswerList) roads fit is short. right_again (g.A.PathAlgebra.meaning c.args.algebra) c.laws_hold.ensures.lawful g' roads q t fit is short

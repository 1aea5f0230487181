use Rattle.answer_text.proofs.Words.{ap, answer_text, answer_data, fell_out}
use Rattle.answer_text.proofs.Blocks.{answer_left, answer_fell}
use Rattle.answer_text.proofs.writing.write_blocks.Goals as goal

pub loop-answer-preserved : goal.loop-answer-preserved
loop-answer-preserved g c = answer_left _ _ _ _ _ c.args.answers.now c.loop-answer.answer-index c.answer-item.result c.loop-answer-test.true
    (ap (λ a. answer_text (answer_data a)) c.answer-item.is) c.loop-answer.invariant c.in_ok-write_answer.ensures

pub returns-in_err-write_answer : goal.returns-in_err-write_answer
returns-in_err-write_answer g c = fell_out _ _ _ _ c.from_residual.result c.from_residual.ensures.1
    (answer_fell _ _ _ _ _ c.args.answers.now c.loop-answer.answer-index c.answer-item.result c.loop-answer-test.true
    (ap (λ a. answer_text (answer_data a)) c.answer-item.is) c.loop-answer.invariant c.in_err-write_answer.ensures)

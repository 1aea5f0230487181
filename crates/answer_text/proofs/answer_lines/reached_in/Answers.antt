use Rattle.answer_text.proofs.Words.{arith, common_steps, reached_line}
use Rattle.answer_text.proofs.answer_lines.reached_in.Goals as goal

pub returns-then-from-next : goal.returns-then-from-next
unfolding reached_line
returns-then-from-next c = grind (arith, common_steps)

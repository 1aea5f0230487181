use Rattle.answer_text.proofs.Words.{arith, common_steps, header_text}
use Rattle.answer_text.proofs.writing.write_header.Goals as goal

pub returns : goal.returns
unfolding header_text
returns g c = grind (arith, common_steps)

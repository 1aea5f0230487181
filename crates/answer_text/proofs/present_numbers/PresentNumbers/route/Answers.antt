use Rattle.answer_text.proofs.Words.{arith, common_steps, route_line}
use Rattle.answer_text.proofs.present_numbers.PresentNumbers.route.Goals as goal

pub returns : goal.returns
unfolding route_line
returns c = grind (arith, common_steps)

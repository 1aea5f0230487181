use Rattle.text_lines.proofs.Words.{arith, common_steps, word_on}
use Rattle.text_lines.proofs.slots.Slot.add.Goals as goal

pub returns : goal.returns
unfolding word_on
returns c = grind (arith, common_steps)

-- A must-fail edit breaks this goal: with an answer it is refused at once.
use Rattle.text_lines.proofs.Words.{arith, common_steps}
use Rattle.text_lines.proofs.slots.Slot.begins_with.Goals as goal

pub returns : goal.returns
returns c = grind (arith, common_steps)

-- A must-fail edit breaks this goal: with an answer it is refused at once.
use Rattle.std.proofs.Common.{arith}
use Rattle.std.proofs.lemmas.Grind.{common_steps}
use Rattle.batch_settings.proofs.settings.Settings.are_in_range.Goals as goal

pub returns-then-self-le65536 : goal.returns-then-self-le65536
returns-then-self-le65536 c = grind (arith, common_steps)

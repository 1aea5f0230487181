-- A must-fail edit breaks this goal: with an answer it is refused at once.
use Rattle.std.proofs.Common.{arith}
use Rattle.std.proofs.lemmas.Grind.{common_steps}
use Rattle.fault_reports.proofs.reports.status_of.Goals as goal

pub returns-in-42 : goal.returns-in-42
returns-in-42 c = grind (arith, common_steps)

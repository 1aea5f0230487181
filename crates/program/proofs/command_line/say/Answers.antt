use Rattle.std.proofs.Common.{inr, refl}
use Rattle.program.proofs.command_line.say.Goals as goal

pub returns-in_default : goal.returns-in_default
returns-in_default g c = record {
  unopened = refl;
  said = inr (refl, rw (c.fault_of_run-in_default.ensures) at c.report_fault-in_default.ensures);
}

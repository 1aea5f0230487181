use Rattle.std.proofs.Common.{inl, inr, refl}
use Rattle.program.proofs.command_line.run_words.Goals as goal

pub returns-in-Ok : goal.returns-in-Ok
returns-in-Ok g c = inl (_, c.run_command_line.ensures)

pub returns-in-Err : goal.returns-in-Err
returns-in-Err g c = inr (record { refusal = c.in-Err.refusal; why = (refl, c.in-Err.ensures); unwritten = refl; says = c.refuse.ensures })

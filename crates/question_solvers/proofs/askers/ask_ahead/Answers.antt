use Rattle.question_solvers.proofs.askers.ask_ahead.Goals as goal

pub returns : goal.returns
returns g c = record { ahead = c.add_chunks.ensures _ _ _ c.requires.ahead c.in_ok-chunks.ensures }

use Rattle.worker_fleet.proofs.fleet.join_all.Goals as goal

pub returns-in-Ok-clause-each : goal.returns-in-Ok-clause-each
returns-in-Ok-clause-each g c = λ k d low. let r = (c.in-Ok.ensures.each k d low).1 in (r.handle, r.handle_is, r.kept)

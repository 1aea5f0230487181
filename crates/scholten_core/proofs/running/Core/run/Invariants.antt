use Rattle.scholten_core.proofs.CoreSteps.{IsRunTo}
use Rattle.scholten_core.proofs.running.Core.run.Given as goal

abbrev pub invariant-loop-event : goal.invariant-loop-event
invariant-loop-event g l = IsRunTo g.A.PathAlgebra.meaning l.initial.self l.self l.events l.event-index l.enabled

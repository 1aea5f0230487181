use Rattle.scholten_core.proofs.Finite.{few_changes, few_messages, few_events}
use Rattle.scholten_core.proofs.laws.every_run_is_finite.Goals as goal

pub returns-clause-changes : goal.returns-clause-changes
returns-clause-changes g c = λ r s R S es v. few_changes (g.A.PathAlgebra.meaning c.args.algebra) r s c.laws_hold.ensures.lawful R S es v

pub returns-clause-messages : goal.returns-clause-messages
returns-clause-messages g c = λ r s R S es. few_messages (g.A.PathAlgebra.meaning c.args.algebra) r s c.laws_hold.ensures.lawful R S es

pub returns-clause-events : goal.returns-clause-events
returns-clause-events g c = λ r s R S es. few_events (g.A.PathAlgebra.meaning c.args.algebra) r s c.laws_hold.ensures.lawful R S es

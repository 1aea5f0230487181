use Rattle.scholten_core.proofs.SimpleWalks.{labels_are_simple, messages_are_simple}
use Rattle.scholten_core.proofs.laws.labels_are_values_of_simple_walks.Goals as goal

pub returns-clause-labels : goal.returns-clause-labels
returns-clause-labels g c = λ r s R S es. labels_are_simple (g.A.PathAlgebra.meaning c.args.algebra) r s c.laws_hold.ensures.lawful R S.0 es

pub returns-clause-messages : goal.returns-clause-messages
returns-clause-messages g c = λ r s R S es. messages_are_simple (g.A.PathAlgebra.meaning c.args.algebra) r s c.laws_hold.ensures.lawful R S.0 es

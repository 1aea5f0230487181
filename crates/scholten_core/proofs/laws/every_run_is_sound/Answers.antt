use Rattle.scholten_core.proofs.EveryRun.{labels_are_walk_values, messages_are_walk_values, entry_is_origin, runs_are_rooted, held_is_engager, neutral_is_idle}
use Rattle.scholten_core.proofs.laws.every_run_is_sound.Goals as goal

pub returns-clause-labels : goal.returns-clause-labels
returns-clause-labels g c = λ r s R S es. labels_are_walk_values (g.A.PathAlgebra.meaning c.args.algebra) r s c.laws_hold.ensures.lawful R S.0 es

pub returns-clause-messages : goal.returns-clause-messages
returns-clause-messages g c = λ r s R S es. messages_are_walk_values (g.A.PathAlgebra.meaning c.args.algebra) r s c.laws_hold.ensures.lawful R S.0 es

pub returns-clause-entry : goal.returns-clause-entry
returns-clause-entry g c = λ r s R S es. entry_is_origin (g.A.PathAlgebra.meaning c.args.algebra) r s c.laws_hold.ensures.lawful R S.0 es

pub returns-clause-rooted : goal.returns-clause-rooted
returns-clause-rooted g c = λ r s R S es. runs_are_rooted (g.A.PathAlgebra.meaning c.args.algebra) r s c.laws_hold.ensures.lawful R S.0 es

pub returns-clause-held : goal.returns-clause-held
returns-clause-held g c = λ r s R S es. held_is_engager (g.A.PathAlgebra.meaning c.args.algebra) r s c.laws_hold.ensures.lawful R S.0 es

pub returns-clause-neutral : goal.returns-clause-neutral
returns-clause-neutral g c = λ r s R S es. neutral_is_idle (g.A.PathAlgebra.meaning c.args.algebra) r s c.laws_hold.ensures.lawful R S.0 es

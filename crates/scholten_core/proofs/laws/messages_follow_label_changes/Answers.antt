use Rattle.scholten_core.proofs.EveryRun.{sends_follow_changes}
use Rattle.scholten_core.proofs.laws.messages_follow_label_changes.Goals as goal

pub returns : goal.returns
returns g c = λ r s R S es. sends_follow_changes (g.A.PathAlgebra.meaning c.args.algebra) r s c.laws_hold.ensures.lawful R S.0 es

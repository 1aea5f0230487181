use Rattle.scholten_core.proofs.Words.{subst, IsLawful}
use Rattle.scholten_core.proofs.RunReads.{label_walk}
use Rattle.scholten_core.proofs.running.Core.label.Goals as goal

pub returns-clause-walk : goal.returns-clause-walk
returns-clause-walk g c = label_walk g.A.PathAlgebra.meaning _ c.args.self.now c.self.view_is
    (subst (λ a. IsLawful (g.A.PathAlgebra.meaning a)) c.algebra.ensures.algebra c.laws_hold.ensures.lawful) c.self.invariant c.args.v _
    c.label.ensures

use Rattle.scholten_core.proofs.Words.{subst, IsLawful}
use Rattle.scholten_core.proofs.RunReads.{engager_held, rooted_at}
use Rattle.scholten_core.proofs.running.Core.engager.Goals as goal

pub returns-clause-held : goal.returns-clause-held
returns-clause-held g c = engager_held g.A.PathAlgebra.meaning _ c.args.self.now c.self.view_is
    (subst (λ a. IsLawful (g.A.PathAlgebra.meaning a)) c.algebra.ensures.algebra c.laws_hold.ensures.lawful) c.self.invariant c.args.v _
    c.engager.ensures

pub returns-clause-rooted : goal.returns-clause-rooted
returns-clause-rooted g c = rooted_at g.A.PathAlgebra.meaning _ c.args.self.now c.self.view_is
    (subst (λ a. IsLawful (g.A.PathAlgebra.meaning a)) c.algebra.ensures.algebra c.laws_hold.ensures.lawful) c.self.invariant

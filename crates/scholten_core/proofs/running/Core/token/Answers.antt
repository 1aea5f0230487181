use Rattle.scholten_core.proofs.Words.{◌∙◌, sym, subst, IsLawful}
use Rattle.scholten_core.proofs.RunReads.{message_walk}
use Rattle.scholten_core.proofs.running.Core.token.Goals as goal

pub returns-clause-walk : goal.returns-clause-walk
returns-clause-walk g c = λ x q. message_walk g.A.PathAlgebra.meaning _ c.args.self.now c.self.view_is
    (subst (λ a. IsLawful (g.A.PathAlgebra.meaning a)) c.algebra.ensures.algebra c.laws_hold.ensures.lawful) c.self.invariant c.args.a x
    (sym c.token.ensures ∙ q)

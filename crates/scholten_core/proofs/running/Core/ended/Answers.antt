use Rattle.scholten_core.proofs.Words.{◌∙◌, sym, ap, subst, IsLawful, is_idle, idle-true}
use Rattle.scholten_core.proofs.RunReads.{quiet_at, best_at, going_at}
use Rattle.scholten_core.proofs.running.Core.ended.Goals as goal

pub returns-clause-quiet : goal.returns-clause-quiet
returns-clause-quiet g c = λ t. quiet_at g.A.PathAlgebra.meaning _ c.args.self.now c.self.view_is
    (subst (λ a. IsLawful (g.A.PathAlgebra.meaning a)) c.algebra.ensures.algebra c.laws_hold.ensures.lawful) c.self.invariant (sym c.token.ensures
    ∙ idle-true _ (sym c.is_idle.ensures ∙ t))

pub returns-clause-best : goal.returns-clause-best
returns-clause-best g c = λ t. best_at g.A.PathAlgebra.meaning _ c.args.self.now c.self.view_is
    (subst (λ a. IsLawful (g.A.PathAlgebra.meaning a)) c.algebra.ensures.algebra c.laws_hold.ensures.lawful) c.self.invariant (sym c.token.ensures
    ∙ idle-true _ (sym c.is_idle.ensures ∙ t))

pub returns-clause-going : goal.returns-clause-going
returns-clause-going g c = λ n. going_at g.A.PathAlgebra.meaning _ c.args.self.now c.self.view_is
    (subst (λ a. IsLawful (g.A.PathAlgebra.meaning a)) c.algebra.ensures.algebra c.laws_hold.ensures.lawful) c.self.invariant
    (λ q. n (c.is_idle.ensures ∙ ap is_idle (c.token.ensures ∙ q)))

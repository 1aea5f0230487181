use Rattle.path_factors.proofs.Words.{subst, AreAligned, IsBegun, IsOutline, heads_in, FactorState}
use Rattle.path_factors.proofs.HeadRows.{aligned_of_heads}
use Rattle.path_factors.proofs.weighing.Weighing.holds.Goals as goal

pub returns-clause-begun : goal.returns-clause-begun
returns-clause-begun g c =
    subst (λ (s : FactorState g.row.A.Denot g.row.A-Walk.Denot). IsBegun (g.A.PathAlgebra.meaning s.algebra) (g.A.ComposingAlgebra.walks s.algebra) s.roads s.factor)
    c.self.view_is c.self.invariant.0

pub returns-clause-outline : goal.returns-clause-outline
returns-clause-outline g c =
    subst (λ (s : FactorState g.row.A.Denot g.row.A-Walk.Denot). IsOutline s.roads s.factor.places (heads_in s.factor.leaving))
    c.self.view_is c.self.invariant.1

pub returns-clause-aligned : goal.returns-clause-aligned
returns-clause-aligned g c =
    subst (λ (s : FactorState g.row.A.Denot g.row.A-Walk.Denot). AreAligned s.factor.leaving s.factor.entering) c.self.view_is
    (aligned_of_heads c.self.inside.rows.leaving c.self.inside.rows.entering c.len.ensures.heads)

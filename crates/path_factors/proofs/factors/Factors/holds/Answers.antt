use Rattle.path_factors.proofs.Words.{subst, IsGraph, IsFactor, IsOutline, FactorState, AreAtHeads}
use Rattle.path_factors.proofs.factors.Factors.holds.Goals as goal

pub returns-clause-factor : goal.returns-clause-factor
returns-clause-factor g c =
    subst (λ (s : FactorState g.row.A.Denot g.row.A-Walk.Denot). IsFactor (g.A.PathAlgebra.meaning s.algebra) (g.A.ComposingAlgebra.walks s.algebra) s.roads s.factor)
    c.self.view_is c.self.invariant.0.factor

pub returns-clause-roads : goal.returns-clause-roads
returns-clause-roads g c =
    subst (λ (s : FactorState g.row.A.Denot g.row.A-Walk.Denot). IsGraph s.roads) c.self.view_is c.self.invariant.0.roads

pub returns-clause-outline : goal.returns-clause-outline
returns-clause-outline g c =
    subst (λ (s : FactorState g.row.A.Denot g.row.A-Walk.Denot). IsOutline s.roads s.factor.places s.heads) c.self.view_is c.self.invariant.0.outline

pub returns-clause-at_heads : goal.returns-clause-at_heads
returns-clause-at_heads g c =
    subst (λ (s : FactorState g.row.A.Denot g.row.A-Walk.Denot). AreAtHeads s.heads s.factor) c.self.view_is c.self.invariant.0.at_heads

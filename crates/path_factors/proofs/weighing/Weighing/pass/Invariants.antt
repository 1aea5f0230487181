use Rattle.path_factors.proofs.Words.{◌≡◌, ◌<◌, get_or, row_of, AreAhead, heads_in, IsSameState}
use Rattle.path_factors.proofs.Eliminating.{Passed}
use Rattle.path_factors.proofs.weighing.Weighing.pass.Given as goal

abbrev pub invariant-loop-j : goal.invariant-loop-j
invariant-loop-j g l = record {
  same : IsSameState l.fn.self l.self;
  after : l.i < l.j;
  passed : Passed (g.A.ComposingAlgebra.walks l.fn.self.algebra) (λ z. z ≡ get_or (row_of (heads_in l.fn.self.factor.leaving) l.v) l.i 0) l.v l.i l.fn.self.factor l.self.factor l.j;
  ahead : AreAhead (heads_in l.fn.self.factor.leaving) l.v l.i l.j l.q;
}

use Rattle.path_factors.proofs.Words.{◌≡◌, ◌<◌, length, AreAhead, heads_in, DoForAll}
use Rattle.path_factors.proofs.weighing.Weighing.choose_after.Given as goal

abbrev pub invariant-loop-j : goal.invariant-loop-j
invariant-loop-j g l = record {
  after : l.i < l.j;
  marks : length l.marks ≡ length l.fn.marks;
  serve : DoForAll (g.A.PathAlgebra.meaning l.self.algebra) (g.A.ComposingAlgebra.walks l.self.algebra) l.self.factor l.v l.marks;
  ahead : AreAhead (heads_in l.self.factor.leaving) l.v l.i l.j l.q;
}

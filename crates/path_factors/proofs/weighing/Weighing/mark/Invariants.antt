use Rattle.path_factors.proofs.Words.{◌≡◌, length, DoForAll}
use Rattle.path_factors.proofs.weighing.Weighing.mark.Given as goal

abbrev pub invariant-loop-i : goal.invariant-loop-i
invariant-loop-i g l = record {
  marks : length l.marks.items ≡ l.count;
  serve : DoForAll (g.A.PathAlgebra.meaning l.self.algebra) (g.A.ComposingAlgebra.walks l.self.algebra) l.self.factor l.v l.marks.items;
}

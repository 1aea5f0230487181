use Rattle.path_factors.proofs.Words.{◌≡◌, ℕ, List, length, IsSome, CanHalt, IsForwardTo}
use Rattle.path_factors.proofs.factors.Factors.sweep_up.Given as goal

abbrev pub invariant-loop-i : goal.invariant-loop-i
invariant-loop-i g l = record {
  halt : CanHalt l.halt → IsSome l.stop;
  count : length l.labels ≡ length l.fn.labels;
  forward : (sources : List ℕ) →
      IsForwardTo (g.A.PathAlgebra.meaning l.self.algebra) (g.A.ComposingAlgebra.walks l.self.algebra) l.self.roads l.self.factor sources 0 l.fn.labels →
      IsForwardTo (g.A.PathAlgebra.meaning l.self.algebra) (g.A.ComposingAlgebra.walks l.self.algebra) l.self.roads l.self.factor sources l.i l.labels;
}

use Rattle.path_factors.proofs.Words.{◌≡◌, drop, row_of, at, best_along}
use Rattle.path_factors.proofs.factors.Factors.best_down.Given as goal

abbrev pub invariant-loop-j : goal.invariant-loop-j
invariant-loop-j g l =
    best_along (g.A.PathAlgebra.meaning l.algebra) (g.A.ComposingAlgebra.walks l.algebra) l.labels l.best (drop l.j (row_of l.self-inside.rows.entering l.i))
    ≡ best_along (g.A.PathAlgebra.meaning l.algebra) (g.A.ComposingAlgebra.walks l.algebra) l.labels (at l.labels l.i) (row_of l.self-inside.rows.entering l.i)

use Rattle.path_factors.proofs.Words.{◌≡◌, Some, drop, length, row_of, offered_along}
use Rattle.path_factors.proofs.factors.Factors.offer_up.Given as goal

abbrev pub invariant-loop-j : goal.invariant-loop-j
invariant-loop-j g l = record {
  value : g.row.A-Value.Denot;
  is : l.label ≡ Some value;
  so_far : offered_along (g.A.PathAlgebra.meaning l.algebra) (g.A.ComposingAlgebra.walks l.algebra) value l.labels (drop l.j (row_of l.self-inside.rows.leaving l.i))
      ≡ offered_along (g.A.PathAlgebra.meaning l.algebra) (g.A.ComposingAlgebra.walks l.algebra) value l.fn.labels (row_of l.self-inside.rows.leaving l.i);
  count : length l.labels ≡ length l.fn.labels;
}

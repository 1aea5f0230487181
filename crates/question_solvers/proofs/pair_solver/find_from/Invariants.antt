use Rattle.std.proofs.Common.{◌≡◌, ◌<◌, ℕ, Some, slice_index_or}
use Rattle.question_solvers.proofs.pair_solver.find_from.Given as goal

abbrev pub invariant-loop-k : goal.invariant-loop-k
invariant-loop-k g l = (j : ℕ) → j < l.k → (d : _) → (slice_index_or l.fn.pool j d).searcher.source ≡ Some l.fn.source → ⊥

use Rattle.question_solvers.proofs.Words.{◌≡◌, All, GraphData, IsSearcherOf}
use Rattle.std.specs.List.{AllWithin}
use Rattle.question_solvers.proofs.pair_solver.set_algebra.Given as goal

abbrev pub invariant-loop-solver : goal.invariant-loop-solver
invariant-loop-solver g l = (roads : GraphData) → All (λ s. s.searcher.roads ≡ roads) l.fn.pool.items →
    All (λ s. s.searcher.roads ≡ roads) l.solver-items × AllWithin (λ s. IsSearcherOf l.fn.algebra roads s.searcher) l.solver-items 0 l.solver-index

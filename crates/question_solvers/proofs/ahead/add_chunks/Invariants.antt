use Rattle.question_solvers.proofs.Words.{All, length, GraphData, Algebra, Asked, IsSearched}
use Rattle.question_solvers.proofs.ahead.add_chunks.Given as goal

abbrev pub invariant-loop-chunk : goal.invariant-loop-chunk
invariant-loop-chunk g l = (A : Algebra g.row.V.Denot) (roads : GraphData) (asked : Asked) → All (IsSearched A roads asked) l.fn.ahead.items →
    All (λ chunk. All (IsSearched A roads asked) chunk.items) l.fn.chunks.items → All (IsSearched A roads asked) l.ahead.items × All (λ chunk. All (IsSearched A roads asked) chunk.items) l.chunks.items

abbrev pub decreases-loop-chunk : goal.decreases-loop-chunk
decreases-loop-chunk g l = length l.chunks.items

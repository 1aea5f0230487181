use Rattle.question_solvers.proofs.Words.{All, length, GraphData, Algebra, Asked, IsSearched}
use Rattle.question_solvers.proofs.ahead.add_chunk.Given as goal

abbrev pub invariant-loop-next : goal.invariant-loop-next
invariant-loop-next g l = (A : Algebra g.row.V.Denot) (roads : GraphData) (asked : Asked) → All (IsSearched A roads asked) l.fn.ahead.items → All (IsSearched A roads asked) l.fn.chunk.items →
    All (IsSearched A roads asked) l.ahead.items × All (IsSearched A roads asked) l.chunk.items

abbrev pub decreases-loop-next : goal.decreases-loop-next
decreases-loop-next g l = length l.chunk.items

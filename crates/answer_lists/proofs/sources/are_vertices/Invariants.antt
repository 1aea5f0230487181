use Rattle.answer_lists.proofs.Words.{take, HasVertex}
use Rattle.std.specs.List.{All}
use Rattle.answer_lists.proofs.sources.are_vertices.Given as goal

abbrev pub invariant-loop-number : goal.invariant-loop-number
invariant-loop-number l = All (HasVertex l.graph) (take l.number-index l.numbers)

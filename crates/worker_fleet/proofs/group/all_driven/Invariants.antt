use Rattle.worker_fleet.proofs.Words.{◌≡◌, ◌++◌, map, Some, into_iter_items}
use Rattle.worker_fleet.proofs.group.all_driven.Given as goal

-- what was answered is what has been kept, and then what is left
abbrev pub invariant-loop-answer : goal.invariant-loop-answer
invariant-loop-answer g l = l.fn.answers.items ≡ map Some l.all.items ++ into_iter_items l.answer-iterator

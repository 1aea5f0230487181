use Rattle.shard_part.proofs.Words.{◌-◌, ◌≤◌}
use Rattle.shard_part.specs.Part.{HandledWithin}
use Rattle.shard_part.proofs.part.Part.handle_within.Given as goal

abbrev pub invariant-loop-taken : goal.invariant-loop-taken
invariant-loop-taken g l = HandledWithin g.A.PathAlgebra.meaning l.limit l.fn.self l.taken l.self × (l.taken ≤ l.budget)

abbrev pub decreases-loop-taken : goal.decreases-loop-taken
decreases-loop-taken g l = l.budget - l.taken

-- A must-fail edit breaks this goal: with an answer it is refused at once.
use Rattle.std.proofs.Common.{arith}
use Rattle.std.proofs.lemmas.Grind.{common_steps}
use Rattle.shard_part.proofs.state.PartState.improve.Goals as goal

pub returns-else-improved-clause-improved : goal.returns-else-improved-clause-improved
returns-else-improved-clause-improved g c = grind (arith, common_steps)

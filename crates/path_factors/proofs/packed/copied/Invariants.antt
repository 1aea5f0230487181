use Rattle.path_factors.proofs.Words.{◌≡◌, take}
use Rattle.path_factors.proofs.packed.copied.Given as goal

abbrev pub invariant-loop-walk : goal.invariant-loop-walk
invariant-loop-walk g l = l.copy.items ≡ take l.walk-index l.walks

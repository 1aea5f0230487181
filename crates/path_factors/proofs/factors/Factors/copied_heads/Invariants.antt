use Rattle.std.proofs.Common.{◌≡◌, take}
use Rattle.path_factors.proofs.factors.Factors.copied_heads.Given as goal

abbrev pub invariant-loop-i : goal.invariant-loop-i
invariant-loop-i g l = l.heads ≡ take l.i l.self.heads

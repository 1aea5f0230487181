use Rattle.std.proofs.Common.{◌≡◌, ℕ, ◌≤◌, ◌<◌, ◌-◌, length, get_or}
use Rattle.path_factors.proofs.heads.seek.Given as goal

abbrev pub invariant-loop-j : goal.invariant-loop-j
invariant-loop-j l = (m : ℕ) × (l.j ≤ m) × (m < length l.heads) × (get_or l.heads m 0 ≡ l.place)

abbrev pub decreases-loop-j : goal.decreases-loop-j
decreases-loop-j l = length l.heads - l.j

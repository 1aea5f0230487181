use Rattle.path_factors.proofs.Words.{ℕ, ◌≤◌, ◌<◌, ◌⊎◌, length, get_or, All, Contains, AreBelow, HasFrom}
use Rattle.path_factors.proofs.chains.Chains.read.Given as goal

abbrev pub invariant-loop-item : goal.invariant-loop-item
invariant-loop-item l = record {
  inside : l.item ≤ length l.self.items;
  has : (x : ℕ) → HasFrom l.self.items (get_or l.self.firsts l.list 0) x → HasFrom l.self.items l.item x ⊎ Contains l.into.items x;
  below : (n : ℕ) → AreBelow n l.self → All (λ x. x < n) l.fn.into.items → All (λ x. x < n) l.into.items;
}

abbrev pub decreases-loop-item : goal.decreases-loop-item
decreases-loop-item l = l.item

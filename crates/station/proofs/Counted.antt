-- Steps of the words of all shards but the own.
use Rattle.station.proofs.Words.{◌≡◌, ℕ, Bool, true, false, ◌+◌, ◌*◌, ◌<◌, ◌≤◌, inl, inr, arith, from_bool, cases_eq}

pub before_own : (own from start s t : ℕ) → (from ≤ own → s ≤ start + 2 * from) → t ≤ s + 2 → from + 1 ≤ own → t ≤ start + 2 * (from + 1)
before_own own from start s t b l m = let c = b (omega (arith, m)) in omega (arith, c, l)

pub after_own : (own from start s t : ℕ) → (from ≤ own → s ≤ start + 2 * from) → (own < from → s + 2 ≤ start + 2 * from) → t ≤ s + 2
    → (from ≡ own → t ≡ s) → own < from + 1 → t + 2 ≤ start + 2 * (from + 1)
after_own own from start s t b a l e m = elim (cases_eq from own) [
  | inl q ↦ (let c = b (omega (arith, q)) in let d = e q in omega (arith, c, d))
  | inr ne ↦ (let c = a (omega (arith, m, ne)) in omega (arith, c, l))
]

pub one_at_most : (b : Bool) → from_bool b ≤ 1
one_at_most true = omega arith
one_at_most false = omega arith

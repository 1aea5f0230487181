-- Counting the places that have a vertex.
use Rattle.std.proofs.Common.{◌≡◌, ◌≢◌, ℕ, zero, suc, ◌+◌, ◌<◌, ◌≤◌, List, [], ◌∷◌, length, replicate, get_or, set, ap, refl, arith}
use Rattle.elimination_order.specs.Orders.{filled}

-- one more has one
pub filled_more : (vs : List ℕ) (i v : ℕ) → i < length vs → get_or vs i 0 ≡ 0 → 1 ≤ v → filled (set vs i v) ≡ filled vs + 1
filled_more [] i v low e some = absurd (omega (arith, low))
filled_more (suc u ∷ vs) zero v low e some = absurd (omega (arith, e))
filled_more (zero ∷ vs) zero zero low e some = absurd (omega (arith, some))
filled_more (zero ∷ vs) zero (suc v) low e some = refl
filled_more (zero ∷ vs) (suc i) v low e some = filled_more vs i v (omega (arith, low)) e some
filled_more (suc u ∷ vs) (suc i) v low e some = ap (λ n. n + 1) (filled_more vs i v (omega (arith, low)) e some)

-- none has
pub filled_none : (n : ℕ) → filled (replicate n 0) ≡ 0
filled_none zero = refl
filled_none (suc n) = filled_none n

-- if not all have one, the first k of them do only if there are more
pub free_left : (vs : List ℕ) (k : ℕ) → filled vs < length vs → ((i : ℕ) → i < k → get_or vs i 0 ≢ 0) → k < length vs
free_left [] k some taken = absurd (omega (arith, some))
free_left (v ∷ vs) zero some taken = omega arith
free_left (zero ∷ vs) (suc k) some taken = absurd (taken 0 (omega arith) refl)
free_left (suc v ∷ vs) (suc k) some taken = let rest = free_left vs k (omega (arith, some)) (λ i low. taken (suc i) (omega (arith, low))) in omega (arith, rest)

-- One more pair of two lists side by side.
use Rattle.worker_fleet.proofs.Words.{arith, ◌≡◌, ℕ, ◌<◌, ◌+◌, List, [], ◌∷◌, ◌++◌, length, get_or, inl, inr, cases_lt, common_steps}

pub AllPairs-push : {S H : Type 0} (R : ℕ → S → H → Type 0) (ss : List S) (hs all : List H) (s : S) (h : H) → all ≡ hs ++ h ∷ [] → ((d : S) → get_or ss (length hs) d ≡ s) → R (length hs) s h
    → ((k : ℕ) (d : H) (e : S) → k < length hs → R k (get_or ss k e) (get_or hs k d))
    → (k : ℕ) (d : H) (e : S) → k < length hs + 1 → R k (get_or ss k e) (get_or all k d)
AllPairs-push R ss hs all s h is at r each k d e low =
    elim (cases_lt k (length hs)) as (λ _. R k (get_or ss k e) (get_or all k d)) [
      | inl below ↦ let eq : get_or all k d ≡ get_or hs k d = grind (arith, common_steps) in rw eq (each k d e below)
      | inr here ↦
          let i : k ≡ length hs = omega arith in
          let eq : get_or all (length hs) d ≡ h = grind (arith, common_steps) in
          rw (i, at e, eq) r
    ]

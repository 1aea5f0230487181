-- Claims in rotation.
use Rattle.std.specs.Prelude.{ℕ, suc, Bool, false, cond, eqb, List, [], ◌∷◌, ◌++◌}

-- the first moves to the end
abbrev pub cycled : {A : Type 0} → List A → List A
cycled [] = []
cycled (x ∷ xs) = xs ++ x ∷ []

-- how many are before the first k
abbrev pub before : ℕ → List ℕ → ℕ
before k [] = 0
before k (x ∷ xs) = cond (eqb x k) 0 (suc (before k xs))

-- the first is k
abbrev pub first_is : ℕ → List ℕ → Bool
first_is k [] = false
first_is k (x ∷ xs) = eqb x k

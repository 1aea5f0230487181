-- Things that are moved step by step, and how often each was.
use Rattle.std.specs.Prelude.{ℕ, zero, suc, List, [], ◌∷◌, ⊤}

-- n steps lead from x to y, through a list of states each of which is next to the one before
pub data Steps {X : Type 0} (S : X → X → Type 0) : ℕ → X → X → Type 0 where
  still : {x : X} → Steps S zero x x
  then : {n : ℕ} {x y z : X} → Steps S n x y → S y z → Steps S (suc n) x z

-- each of xs was moved by as many steps as counts says, and is now the one of ys in its place
unfoldable pub MovesEach : {X : Type 0} → (X → X → Type 0) → List ℕ → List X → List X → Type 0
MovesEach S [] [] [] = ⊤
MovesEach S (n ∷ ns) (x ∷ xs) (y ∷ ys) = Steps S n x y × MovesEach S ns xs ys
MovesEach S _ _ _ = ⊥

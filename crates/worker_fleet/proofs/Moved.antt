-- One more step of one of the things that are moved.
use Rattle.worker_fleet.proofs.Words.{◌≡◌, ◌≢◌, ℕ, zero, suc, ◌+◌, ◌<◌, List, [], ◌∷◌, length, get_or, set, refl, ap, arith, add-one, length-set, common_steps, slice_get_read, Steps, still, then, MovesEach}
use Rattle.std.specs.Prelude.{sum, slice_get, Some, None}
use Rattle.std.proofs.lemmas.List.Sums.{sum_by-set, sum_by-cons}

pub zeros : {X : Type 0} → List X → List ℕ
zeros [] = []
zeros (x ∷ xs) = 0 ∷ zeros xs

pub more_at : List ℕ → ℕ → List ℕ
more_at ns i = set ns i (get_or ns i 0 + 1)

module _ {X : Type 0} (S : X → X → Type 0) where
  -- what holds of no things, and with each that is moved of one more, holds of all
  pub MovesEach-by : (F : List ℕ → List X → List X → Type 0) → F [] [] []
      → ((n : ℕ) (x y : X) (ns : List ℕ) (xs ys : List X) → Steps S n x y → F ns xs ys → F (n ∷ ns) (x ∷ xs) (y ∷ ys))
      → (ns : List ℕ) (xs ys : List X) → MovesEach S ns xs ys → F ns xs ys
  unfolding MovesEach
  MovesEach-by F none more [] [] [] m = none
  MovesEach-by F none more (n ∷ ns) (x ∷ xs) (y ∷ ys) m = more n x y ns xs ys m.0 (MovesEach-by F none more ns xs ys m.1)
  MovesEach-by F none more [] [] (y ∷ ys) m = absurd m
  MovesEach-by F none more [] (x ∷ xs) ys m = absurd m
  MovesEach-by F none more (n ∷ ns) [] ys m = absurd m
  MovesEach-by F none more (n ∷ ns) (x ∷ xs) [] m = absurd m

  pub MovesEach-length : (ns : List ℕ) (xs ys : List X) → MovesEach S ns xs ys → (length ns ≡ length xs) × (length ns ≡ length ys)
  MovesEach-length ns xs ys m = MovesEach-by (λ ns xs ys. (length ns ≡ length xs) × (length ns ≡ length ys)) (refl, refl) (λ n x y ns xs ys s r. (ap suc r.0, ap suc r.1)) ns xs ys m

  pub MovesEach-none : (xs : List X) → MovesEach S (zeros xs) xs xs
  unfolding MovesEach zeros
  MovesEach-none [] = tt
  MovesEach-none (x ∷ xs) = (still, MovesEach-none xs)

  MovesEach-more : (ns : List ℕ) (xs ys : List X) (i : ℕ) (y z : X) → MovesEach S ns xs ys → slice_get ys i ≡ Some y → S y z → MovesEach S (more_at ns i) xs (set ys i z)
  unfolding MovesEach more_at
  MovesEach-more [] [] [] i y z m at s = let no : None ≡ Some y = at in cc
  MovesEach-more (n ∷ ns) (x ∷ xs) (w ∷ ys) zero y z m at s =
      let same : w ≡ y = let e : Some w ≡ Some y = at in cc in
      (rw add-one (then {z = z} m.0 (rw same s)), m.1)
  MovesEach-more (n ∷ ns) (x ∷ xs) (w ∷ ys) (suc i) y z m at s = (m.0, MovesEach-more ns xs ys i y z m.1 at s)
  MovesEach-more [] [] (w ∷ ys) i y z m at s = absurd m
  MovesEach-more [] (x ∷ xs) ys i y z m at s = absurd m
  MovesEach-more (n ∷ ns) [] ys i y z m at s = absurd m
  MovesEach-more (n ∷ ns) (x ∷ xs) [] i y z m at s = absurd m

pub more-length : (ns : List ℕ) (i : ℕ) → length (more_at ns i) ≡ length ns
unfolding more_at
more-length ns i = length-set ns i (get_or ns i 0 + 1)

pub zeros-at : {X : Type 0} (xs : List X) (i : ℕ) → get_or (zeros xs) i 0 ≡ 0
unfolding zeros
zeros-at [] i = refl
zeros-at (x ∷ xs) zero = refl
zeros-at (x ∷ xs) (suc i) = zeros-at xs i

pub more-here : (ns : List ℕ) (i : ℕ) → i < length ns → get_or (more_at ns i) i 0 ≡ get_or ns i 0 + 1
unfolding more_at
more-here ns i low = grind (arith, common_steps)

pub more-there : (ns : List ℕ) (i j : ℕ) → j ≢ i → get_or (more_at ns i) j 0 ≡ get_or ns j 0
unfolding more_at
more-there ns i j ne = grind (arith, common_steps)

pub sum-zeros : {X : Type 0} (xs : List X) → sum (zeros xs) ≡ 0
unfolding zeros
sum-zeros [] = refl
sum-zeros (x ∷ xs) = omega (arith, sum_by-cons (λ (n : ℕ). n) 0 (zeros xs), sum-zeros xs)

pub sum-more : (ns : List ℕ) (i : ℕ) → i < length ns → sum (more_at ns i) ≡ sum ns + 1
unfolding more_at
sum-more ns i low = omega (arith, sum_by-set (λ (n : ℕ). n) ns i (get_or ns i 0 + 1) 0 low)

-- one thing of ys was moved by a step more, as it was read there
pub MovesEach-read : {X : Type 0} (S : X → X → Type 0) (ns : List ℕ) (xs ys : List X) (i : ℕ) (y z : X) → i < length ys → y ≡ get_or ys i y → S y z
    → MovesEach S ns xs ys → MovesEach S (more_at ns i) xs (set ys i z)
MovesEach-read S ns xs ys i y z low at s m = MovesEach-more S ns xs ys i y z m (slice_get_read ys (length ys) i y refl low at) s

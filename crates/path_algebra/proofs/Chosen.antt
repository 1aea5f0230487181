-- A number names one algebra at most, and what holds of each algebra holds of the one that was
-- chosen.
use Rattle.path_algebra.proofs.Words.{◌≡◌, ◌↔◌, ℕ, ◌≤◌, ◌^◌, refl, subst, arith, Algebra, within}
use Rattle.path_algebra.specs.Choices.{Under, HasLimit, IsAlgebra, IsNumbered, OfAlgebra, number_of}
use Rattle.path_algebra.specs.declared.choice.AlgebraChoice.{AlgebraChoice}
use Rattle.path_algebra.specs.declared.choice.AlgebraChoice.TheVariants.{Shortest, Widest, Reach, Hops, Reliable, Within}

module _ (P : (V : Type 0) → Algebra V → Type 0) (limit : ℕ) where
  same_number : (a b : AlgebraChoice) → number_of a ≡ number_of b → HasLimit a limit → HasLimit b limit →
      Under a P → Under b P
  same_number Shortest Shortest e la lb h = h
  same_number Widest Widest e la lb h = h
  same_number Reach Reach e la lb h = h
  same_number Hops Hops e la lb h = h
  same_number Reliable Reliable e la lb h = h
  same_number (Within v) (Within w) e la lb h =
      let one : v.limit ≡ w.limit = cc in subst (λ (l : ℕ). P ℕ (within l)) one h
  same_number _ _ e la lb h = absurd (omega (arith, e))

  -- what holds under a choice is so of the algebra whose number it has
  pub of_numbered : (number : ℕ) (chosen : AlgebraChoice) → IsNumbered number limit chosen → Under chosen P →
      OfAlgebra number limit P
  of_numbered number chosen is h = λ other named.
      let e : number_of chosen ≡ number_of other = let x = is.0 in let y = named.0 in cc in
      same_number chosen other e is.1 named.1 h

-- 5 is the number of `within`, which needs a limit up to 2^63
pub within_is_numbered : (limit : ℕ) → IsAlgebra 5 limit ↔ (limit ≤ 2 ^ 63)
within_is_numbered limit = (fits, λ h. (Within (record { limit = limit; fits = h }), (refl, refl)))
  where
    fits : IsAlgebra 5 limit → limit ≤ 2 ^ 63
    fits (Within w, is) = let h = w.fits in let l = is.1 in omega (arith, l, h)
    fits (_, is) = let e = is.0 in absurd (omega (arith, e))

-- what is found of each algebra for which P holds is found of the one that was chosen
pub under_some : (chosen : AlgebraChoice) (R : Type 0) (P : (V : Type 0) → Algebra V → Type 0) (Q : R → (V : Type 0) → Algebra V → Type 0) →
    ((V : Type 0) (A : Algebra V) → P V A → (r : R) × Q r V A) → Under chosen P → (r : R) × Under chosen (Q r)
under_some Shortest R P Q find h = find _ _ h
under_some Widest R P Q find h = find _ _ h
under_some Reach R P Q find h = find _ _ h
under_some Hops R P Q find h = find _ _ h
under_some Reliable R P Q find h = find _ _ h
under_some (Within w) R P Q find h = find _ _ h

-- what follows of each algebra for which P holds follows of the one that was chosen
pub under_any : (chosen : AlgebraChoice) (P : (V : Type 0) → Algebra V → Type 0) (X : Type 0) → ((V : Type 0) (A : Algebra V) → P V A → X) → Under chosen P → X
under_any chosen P X follows h = (under_some chosen X P (λ _ _ _. Unit {0}) (λ V A p. (follows V A p, tt)) h).0

-- A number names algebras of one cost at most.
use Rattle.answer_lists.proofs.Words.{◌≡◌, ℕ, Option, arith, AlgebraChoice, Shortest, Widest, Reach, Hops, Reliable, Within, Cost}
use Rattle.path_algebra.specs.Choices.{IsNumbered, arc_cost_of, number_of}
use Rattle.answer_lists.specs.Factoring.{OfCost}

module _ (P : Option Cost → Type 0) where
  same_number : (a b : AlgebraChoice) → number_of a ≡ number_of b → P (arc_cost_of a) → P (arc_cost_of b)
  same_number Shortest Shortest e h = h
  same_number Widest Widest e h = h
  same_number Reach Reach e h = h
  same_number Hops Hops e h = h
  same_number Reliable Reliable e h = h
  same_number (Within v) (Within w) e h = h
  same_number _ _ e h = absurd (omega (arith, e))

  -- what holds of the cost of a choice is so of the algebra whose number it has
  pub cost_of_numbered : (number : ℕ) (chosen : AlgebraChoice) → IsNumbered number 0 chosen → P (arc_cost_of chosen) → OfCost number P
  cost_of_numbered number chosen is h = λ other named.
      let e : number_of chosen ≡ number_of other = let x = is.0 in let y = named.0 in cc in
      same_number chosen other e h

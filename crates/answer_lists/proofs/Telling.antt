-- What a value, hops and a parent are written as shows them.
use Rattle.answer_lists.proofs.Words.{◌≡◌, ℕ, inl, inr, List, refl, Option, Some, None, GraphData, IsGraph, Algebra, IsLawful, IsVertexLine, IsToldOf, code_for, number_for, line_of, HasLowCodes}
use Rattle.path_algebra.specs.Walks.{IsBest}
use Rattle.path_algebra.proofs.Walks.{walk_value_is_value}
use Rattle.answer_lists.proofs.Spelled.{line_is}

module _ {V : Type 0} (A : Algebra V) (lawful : IsLawful A) (low : HasLowCodes A) (g : GraphData) (roads : IsGraph g) (sources : List ℕ) (v : ℕ) where
  -- a best value's code is not what is written for none
  pub code_kept : (x : V) → IsBest A g sources v x → A.code x ≡ 18446744073709551615 → ⊥
  code_kept x b = low x (walk_value_is_value A lawful g roads sources v x b.attained)

  told : (l : Option V) (h p : Option ℕ) → IsToldOf A g sources v l h p → IsVertexLine A g sources v (line_of (code_for A l) (number_for h) (number_for p))
  told None None None t = t
  told None None (Some u) t = absurd t
  told None (Some k) p t = absurd t
  told (Some x) None p t = absurd t
  told (Some x) (Some k) None t = rw (line_is (A.code x) k 0 (code_kept x t.0)) (record { code = (x, t.0, refl); hops = t.1; parent = inl (t.2, refl) })
  told (Some x) (Some k) (Some u) t = rw (line_is (A.code x) k u (code_kept x t.0)) (record { code = (x, t.0, refl); hops = t.1; parent = inr t.2 })

  pub told_at : (l : Option V) (h p : Option ℕ) → IsToldOf A g sources v l h p → (x k u : ℕ) → x ≡ code_for A l → k ≡ number_for h → u ≡ number_for p →
      IsVertexLine A g sources v (line_of x k u)
  told_at l h p t x k u ex ek eu = rw (ex, ek, eu) (told l h p t)

-- What the code reads of the graph, against the network.
use Rattle.scholten_core.proofs.Words.{◌≡◌, ℕ, ◌≤◌, Bool, true, false, eqb, eqb-true, eq-eqb, inl, inr, sym, ap, ◌∙◌, arith, cases_eq, false≢true, arc_of, CoreView, weight-arc}
use Rattle.scholten_core.specs.Network.{weight_of}

-- the test for the environment's arc
pub is_entry : (a : ℕ) (r : Bool) → r ≡ eqb a 0 → r ≡ true → a ≡ 0
is_entry a r e t = eqb-true a 0 (sym e ∙ t)

pub not_entry : (a : ℕ) (r : Bool) → r ≡ eqb a 0 → r ≡ false → 1 ≤ a
not_entry a r e t = elim (cases_eq a 0) [ inl z ↦ absurd (false≢true (sym t ∙ e ∙ eq-eqb a 0 z)) | inr n ↦ omega (arith, n) ]

module _ {S V : Type 0} (t old : CoreView S V) (a : ℕ) (e : t ≡ old) where
  pub arc_weight : (h : ℕ) → 1 ≤ a → h ≡ (arc_of t.diffusion.roads a).weight → h ≡ weight_of old.diffusion.roads a
  arc_weight h l q = q ∙ sym (weight-arc t.diffusion.roads a l) ∙ ap (λ u. weight_of u.diffusion.roads a) e

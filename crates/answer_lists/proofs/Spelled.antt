-- The lines that three lists of one length spell, one by one.
use Rattle.std.proofs.Common.{◌≡◌, ℕ, zero, suc, ◌<◌, Bool, true, false, eqb, eqb-true, List, [], ◌∷◌, length, get_or, refl, ap, arith, Some, None}
use Rattle.answer_lists.specs.Tree.{line_of, lines_of}

-- a code of a value spells a line
pub line_is : (c h p : ℕ) → (c ≡ 18446744073709551615 → ⊥) → line_of c h p ≡ Some (record { code = c; hops = h; parent = p })
line_is c h p other = at (eqb c 18446744073709551615) refl
  where
    at : (b : Bool) → eqb c 18446744073709551615 ≡ b → line_of c h p ≡ Some (record { code = c; hops = h; parent = p })
    at true e = absurd (other (eqb-true c 18446744073709551615 e))
    at false e = rw e refl

pub lines_count : (cs hs ps : List ℕ) → length hs ≡ length cs → length ps ≡ length cs → length (lines_of cs hs ps) ≡ length cs
lines_count [] hs ps eh ep = refl
lines_count (c ∷ cs) [] ps eh ep = absurd (omega (arith, eh))
lines_count (c ∷ cs) (h ∷ hs) [] eh ep = absurd (omega (arith, ep))
lines_count (c ∷ cs) (h ∷ hs) (p ∷ ps) eh ep = ap suc (lines_count cs hs ps (omega (arith, eh)) (omega (arith, ep)))

pub line_there : (cs hs ps : List ℕ) → length hs ≡ length cs → length ps ≡ length cs → (i : ℕ) → i < length cs →
    get_or (lines_of cs hs ps) i None ≡ line_of (get_or cs i 0) (get_or hs i 0) (get_or ps i 0)
line_there [] hs ps eh ep i lt = absurd (omega (arith, lt))
line_there (c ∷ cs) [] ps eh ep i lt = absurd (omega (arith, eh))
line_there (c ∷ cs) (h ∷ hs) [] eh ep i lt = absurd (omega (arith, ep))
line_there (c ∷ cs) (h ∷ hs) (p ∷ ps) eh ep zero lt = refl
line_there (c ∷ cs) (h ∷ hs) (p ∷ ps) eh ep (suc i) lt = line_there cs hs ps (omega (arith, eh)) (omega (arith, ep)) i (omega (arith, lt))

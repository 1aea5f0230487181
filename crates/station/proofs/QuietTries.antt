-- Tries of which none found what it wanted.
use Rattle.std.proofs.Common.{◌≡◌, ◌≢◌, ℕ, zero, suc, ◌<◌, Bool, true, false, List, [], ◌∷◌, ◌++◌, refl, sym, ap, ◌∙◌, subst, inl, inr, arith, append-nil, append_assoc}
use Rattle.station.proofs.Words.{cases_eq, WordStep, at, if_found, IsTry, AreTries}

none_before : (xs : List ℕ) (b : Bool) (j : ℕ) → [] ≡ xs ++ if_found b j → (xs ≡ []) × (b ≡ false)
none_before [] true j e = absurd cc
none_before [] false j e = (refl, refl)
none_before (x ∷ xs) b j e = absurd cc

module _ (wanted : ℕ) (box : ℕ → ℕ) where
  -- one of these steps found another number than the wanted one in the mailbox of j
  abbrev pub Missed : ℕ → List WordStep → Type 0
  Missed j steps = (x : ℕ) × (x ≢ wanted) × (before after : List WordStep) × (steps ≡ before ++ at (box j) x ∷ after)

  longer : (j : ℕ) (steps more : List WordStep) → Missed j steps → Missed j (steps ++ more)
  longer j steps more (x, ne, before, after, e) = (x, ne, before, after ++ more, ap (λ l. l ++ more) e ∙ append_assoc before (at (box j) x ∷ after) more)

module _ (wanted stored : ℕ) (due : ℕ → Type 0) (box : ℕ → ℕ) where
  -- the steps that were made missed each of the first n that was due
  pub record AllMissed (n : ℕ) (before after : List WordStep) : Type 0 where
    pub more : List WordStep
    pub made : after ≡ before ++ more
    pub missed : (j : ℕ) → j < n → due j → Missed wanted box j more

  missed_next : (k : ℕ) (before steps after : List WordStep) → AllMissed k before steps → IsTry wanted stored (due k) (box k) false steps after → AllMissed (suc k) before after
  missed_next k before steps after M I = elim I [
    | inl t ↦ record {
      more = M.more ++ at (box k) t.1 ∷ [];
      made = t.3 ∙ ap (λ l. l ++ at (box k) t.1 ∷ []) M.made ∙ append_assoc before M.more (at (box k) t.1 ∷ []);
      missed = λ j l d. elim (cases_eq j k) [
        | inl same ↦ (t.1, t.2, M.more, [], ap (λ z. M.more ++ at (box z) t.1 ∷ []) (sym same))
        | inr ne ↦ longer wanted box j M.more (at (box k) t.1 ∷ []) (M.missed j (omega (arith, l, ne)) d)
      ];
    }
    | inr t ↦ record {
      more = M.more;
      made = t.1 ∙ M.made;
      missed = λ j l d. elim (cases_eq j k) [ inl same ↦ absurd (t.0 (subst due same d)) | inr ne ↦ M.missed j (omega (arith, l, ne)) d ];
    }
  ]

  -- if none was found as wanted, each that was due was missed
  pub all_missed : (n : ℕ) (before after : List WordStep) → AreTries wanted stored due box n [] before after → AllMissed n before after
  all_missed zero before after T = record { more = []; made = T.1 ∙ sym (append-nil before); missed = λ j l d. absurd (omega (arith, l)) }
  all_missed (suc k) before after (b, earlier, steps, T, I, e) =
      let none' = none_before earlier b k e in
      missed_next k before steps after (all_missed k before steps (subst (λ (z : List ℕ). AreTries wanted stored due box k z before steps) none'.0 T))
      (subst (λ (z : Bool). IsTry wanted stored (due k) (box k) z steps after) none'.1 I)

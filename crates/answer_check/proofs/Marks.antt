-- One source more is marked.
use Rattle.std.proofs.Common.{◌≡◌, ℕ, ◌+◌, ◌-◌, ◌<◌, ◌≤◌, inl, inr, Bool, true, false, List, [], ◌∷◌, ◌++◌, length, get_or, set, take, ap, sym, ◌∙◌, subst, arith, get_or-set_same, get_or-set_other, IsTrue, Contains, ◌↔◌}
use Rattle.answer_check.proofs.Words.{common_steps, is_marked}
use Rattle.std.proofs.lemmas.List.{take_more}
use Rattle.std.proofs.lemmas.Bool.{cases_eq}
use Rattle.std.proofs.lemmas.List.Elements.{Contains-push}

-- the marks tell which of n vertices are in a list
abbrev pub AreMarksOf : ℕ → List ℕ → List Bool → Type 0
AreMarksOf n sources marks = (v : ℕ) → 1 ≤ v → v ≤ n → IsTrue (is_marked marks v) ↔ Contains sources v

module _ (n : ℕ) (sources : List ℕ) (marks : List Bool) (s : ℕ) (count : length marks ≡ n) (low : 1 ≤ s) (high : s ≤ n) (known : AreMarksOf n sources marks) where
  at_source : is_marked (set marks (s - 1) true) s ≡ true
  at_source = let lt : s - 1 < length marks = omega (arith, low, high, count) in get_or-set_same marks (s - 1) true false lt

  elsewhere : (v : ℕ) → (v - 1 ≡ s - 1 → ⊥) → is_marked (set marks (s - 1) true) v ≡ is_marked marks v
  elsewhere v other = get_or-set_other marks (s - 1) (v - 1) true false other

  one_marked : AreMarksOf n (sources ++ s ∷ []) (set marks (s - 1) true)
  one_marked v in_low in_high = elim (cases_eq v s) [
    | inl same ↦ (
      λ t. subst (λ (k : ℕ). Contains (sources ++ s ∷ []) k) (sym same) (Contains-push sources s),
      λ h. subst (λ (k : ℕ). is_marked (set marks (s - 1) true) k ≡ true) (sym same) at_source,
    )
    | inr other ↦ grind (arith, common_steps, elsewhere)
  ]

-- the source at place i of the list is marked too
pub mark_more : (n : ℕ) (sources : List ℕ) (marks : List Bool) (i s : ℕ) → length marks ≡ n → i < length sources → s ≡ get_or sources i s → 1 ≤ s → s ≤ n →
    AreMarksOf n (take i sources) marks → AreMarksOf n (take (i + 1) sources) (set marks (s - 1) true)
mark_more n sources marks i s count lt is low high known =
    let longer : take (i + 1) sources ≡ take i sources ++ s ∷ [] = take_more sources i s lt ∙ ap (λ (w : ℕ). take i sources ++ w ∷ []) (sym is) in
    rw longer (one_marked n (take i sources) marks s count low high known)

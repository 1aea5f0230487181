-- From every state that is reached, enabled events lead to the end.
use Rattle.scholten_core.proofs.Words.{◌≡◌, ℕ, zero, suc, ◌+◌, ◌*◌, ◌≤◌, true, false, List, [], ◌∷◌, ◌++◌, length, refl, sym, ◌∙◌, subst, inl, inr, arith, cond-true, false≢true, GraphData, IsGraph, HasVertex, Algebra, IsLawful, Event, Network, WellFormed, network, CoreState, opening, step, run_from, state_after, is_enabled, count_enabled, HasEnded, message_bound, well_formed}
use Rattle.scholten_core.specs.Progress.{CanGoOn, CanEnd}
use Rattle.scholten_core.proofs.Busy.{never_stuck, goes_on}
use Rattle.scholten_core.proofs.Finite.{few_events}

module _ {V : Type 0} (A : Algebra V) (N : Network) where
  pub run_more : (c : CoreState V) (es : List Event) (e : Event) → run_from A N c (es ++ e ∷ []) ≡ step A N (run_from A N c es) e
  run_more c [] e = refl
  run_more c (d ∷ es) e = run_more (step A N c d) es e

  pub count_more : (c : CoreState V) (es : List Event) (e : Event) → is_enabled (run_from A N c es) e ≡ true → count_enabled A N c (es ++ e ∷ []) ≡ 1 + count_enabled A N c es
  count_more c [] e h = let k = cond-true {A = ℕ} (is_enabled c e) 1 0 h in omega (arith, k)
  count_more c (d ∷ es) e h = let r = count_more (step A N c d) es e h in omega (arith, r)

  can_end_by : (c : CoreState V) (e : Event) → is_enabled c e ≡ true → CanEnd A N (step A N c e) → CanEnd A N c
  can_end_by c e h m = (e ∷ m.0, (let k = cond-true {A = ℕ} (is_enabled c e) 1 0 h in let r = m.1 in omega (arith, k, r)), m.2)

  -- k bounds how many events may still be enabled
  ends_within : IsLawful A → WellFormed N → (bound : ℕ) → ((es : List Event) → count_enabled A N (opening A N) es ≤ bound) →
      (k : ℕ) (es : List Event) → bound ≤ k + count_enabled A N (opening A N) es → CanEnd A N (state_after A N es)
  ends_within L W bound B zero es h = elim (never_stuck A N L W es) [
    | inl q ↦ ([], refl, q)
    | inr e ↦ absurd (let b = B (es ++ e.0 ∷ []) in let c = count_more (opening A N) es e.0 e.1 in omega (arith, b, c))
  ]
  ends_within L W bound B (suc k) es h = elim (never_stuck A N L W es) [
    | inl q ↦ ([], refl, q)
    | inr e ↦ (let c = count_more (opening A N) es e.0 e.1 in
        can_end_by (state_after A N es) e.0 e.1 (subst (CanEnd A N) (run_more (opening A N) es e.0) (ends_within L W bound B k (es ++ e.0 ∷ []) (omega (arith, c)))))
  ]

  -- where no event is enabled the end has come
  stopped : IsLawful A → WellFormed N → (es : List Event) → ((e : Event) → is_enabled (state_after A N es) e ≡ false) → HasEnded (state_after A N es)
  stopped L W es h = elim (never_stuck A N L W es) [ inl q ↦ q | inr e ↦ absurd (false≢true (sym (h e.0) ∙ e.1)) ]

module _ {V : Type 0} (A : Algebra V) (g : GraphData) (s : ℕ) where
  pub can_end : IsLawful A → IsGraph g → HasVertex g s → (es : List Event) → CanEnd A (network g s) (state_after A (network g s) es)
  can_end L R S es = ends_within A (network g s) L (well_formed g s R S.0) (2 * message_bound g s) (λ fs. few_events A g s L R S fs) (2 * message_bound g s) es (omega arith)

  pub stops_ended : IsLawful A → IsGraph g → HasVertex g s → (es : List Event) → ((e : Event) → is_enabled (state_after A (network g s) es) e ≡ false) → HasEnded (state_after A (network g s) es)
  stops_ended L R S es h = stopped A (network g s) L (well_formed g s R S.0) es h

  pub run_goes_on : IsLawful A → IsGraph g → 1 ≤ s → (es : List Event) → (HasEnded (state_after A (network g s) es) → ⊥) → CanGoOn (network g s) (state_after A (network g s) es)
  run_goes_on L R l es q = elim (goes_on A (network g s) L (well_formed g s R l) es) [ inl e ↦ absurd (q e) | inr c ↦ c ]

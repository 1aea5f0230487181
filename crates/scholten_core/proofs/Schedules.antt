-- Every schedule that goes on making enabled events ends its diffusion.
use Rattle.scholten_core.proofs.Words.{◌≡◌, ℕ, zero, suc, ◌+◌, ◌*◌, ◌-◌, ◌≤◌, true, false, List, [], ◌∷◌, ◌++◌, ◌⊎◌, refl, sym, ap, ◌∙◌, inl, inr, arith, cases_eq, cases_Bool, false≢true, GraphData, IsGraph, HasVertex, Algebra, IsLawful, Token, Idle, Message, Held, Signal, Event, Deliver, Accept, Network, WellFormed, network, CoreState, opening, step, delivered, accepted, is_enabled, is_message, is_signal, count_enabled, HasEnded, message_bound, well_formed}
use Rattle.scholten_core.specs.Progress.{first_events, state_at, GoesOnAt, IsBusySchedule, KeepsGoing, IsFairSchedule}
use Rattle.scholten_core.proofs.Ended.{ended}
use Rattle.scholten_core.proofs.Busy.{never_stuck}
use Rattle.scholten_core.proofs.Ending.{run_more, count_more}
use Rattle.scholten_core.proofs.Finite.{few_events}

module _ {V : Type 0} (A : Algebra V) (N : Network) where
  -- how many of the first n events are enabled
  abbrev count_at : (ℕ → Event) → ℕ → ℕ
  count_at event n = count_enabled A N (opening A N) (first_events event n)

  idle_step : (c : CoreState V) (e : Event) → ((b : ℕ) → c.token b ≡ Idle) → step A N c e ≡ c
  idle_step c (Deliver a) q = ap (delivered A N a c) (q a)
  idle_step c (Accept a) q = ap (accepted A N a c) (q a)

  -- an ended diffusion stays ended
  stays_ended : IsLawful A → WellFormed N → (event : ℕ → Event) (n : ℕ) → HasEnded (state_at A N event n) → HasEnded (state_at A N event (suc n))
  stays_ended L W event n q =
      let quiet = (ended A N L W (first_events event n) q).0 in
      ap (λ c. c.token 0) (run_more A N (opening A N) (first_events event n) (event n) ∙ idle_step (state_at A N event n) (event n) quiet.0) ∙ q

  count_next : (event : ℕ → Event) (n : ℕ) → count_at event n ≤ count_at event (suc n)
  count_next event n = count_grows (opening A N) (first_events event n) (event n)
    where
      count_grows : (c : CoreState V) (es : List Event) (e : Event) → count_enabled A N c es ≤ count_enabled A N c (es ++ e ∷ [])
      count_grows c [] e = omega arith
      count_grows c (d ∷ es) e = let r = count_grows (step A N c d) es e in omega (arith, r)

  -- each of the first n events is enabled, or the diffusion has ended
  all_enabled : IsLawful A → WellFormed N → (event : ℕ → Event) → IsBusySchedule A N event → (n : ℕ) → HasEnded (state_at A N event n) ⊎ (count_at event n ≡ n)
  all_enabled L W event B zero = inr refl
  all_enabled L W event B (suc n) = elim (all_enabled L W event B n) [
    | inl q ↦ inl (stays_ended L W event n q)
    | inr e ↦ elim (B n) [
      | inl q ↦ inl (stays_ended L W event n q)
      | inr h ↦ inr (let k = count_more A N (opening A N) (first_events event n) (event n) h in omega (arith, e, k))
    ]
  ]

  ends_at : IsLawful A → WellFormed N → (bound : ℕ) → ((es : List Event) → count_enabled A N (opening A N) es ≤ bound) →
      (event : ℕ → Event) → IsBusySchedule A N event → HasEnded (state_at A N event bound)
  ends_at L W bound C event B = elim (all_enabled L W event B bound) [
    | inl q ↦ q
    | inr e ↦ elim (B bound) [
      | inl q ↦ q
      | inr h ↦ absurd (let k = count_more A N (opening A N) (first_events event bound) (event bound) h in let c = C (first_events event (suc bound)) in omega (arith, e, k, c))
    ]
  ]

  count_upto : (event : ℕ → Event) (n m : ℕ) → n ≤ m → count_at event n ≤ count_at event m
  count_upto event n zero l = let e : n ≡ 0 = omega arith in let s = ap (λ k. count_at event k) e in omega (arith, s)
  count_upto event n (suc m) l = elim (cases_eq n (suc m)) [
    | inl e ↦ (let s = ap (λ k. count_at event k) e in omega (arith, s))
    | inr ne ↦ (let r = count_upto event n m (omega (arith, l, ne)) in let s = count_next event m in omega (arith, r, s))
  ]

  -- k bounds how many events may still be enabled after the first n
  ends_after : (bound : ℕ) → ((es : List Event) → count_enabled A N (opening A N) es ≤ bound) →
      (event : ℕ → Event) → KeepsGoing A N event → (k n : ℕ) → bound ≤ k + count_at event n → (m : ℕ) × HasEnded (state_at A N event m)
  ends_after bound C event F zero n h =
      let f = F n in
      elim f.2 [
        | inl q ↦ (f.0, q)
        | inr e ↦ absurd (let u = count_upto event n f.0 f.1 in
            let k = count_more A N (opening A N) (first_events event f.0) (event f.0) e in
            let c = C (first_events event (suc f.0)) in omega (arith, h, u, k, c))
      ]
  ends_after bound C event F (suc k) n h =
      let f = F n in
      elim f.2 [
        | inl q ↦ (f.0, q)
        | inr e ↦ ends_after bound C event F k (suc f.0) (let u = count_upto event n f.0 f.1 in
            let r = count_more A N (opening A N) (first_events event f.0) (event f.0) e in omega (arith, h, u, r))
      ]

  -- an event that is not enabled changes nothing
  delivers_nothing : (a : ℕ) (c : CoreState V) (t : Token V) → is_message t ≡ false → delivered A N a c t ≡ c
  delivers_nothing a c Idle h = refl
  delivers_nothing a c (Message x) h = absurd (false≢true (sym h))
  delivers_nothing a c Held h = refl
  delivers_nothing a c Signal h = refl

  accepts_nothing : (a : ℕ) (c : CoreState V) (t : Token V) → is_signal t ≡ false → accepted A N a c t ≡ c
  accepts_nothing a c Idle h = refl
  accepts_nothing a c (Message x) h = refl
  accepts_nothing a c Held h = refl
  accepts_nothing a c Signal h = absurd (false≢true (sym h))

  nothing_done : (c : CoreState V) (e : Event) → is_enabled c e ≡ false → step A N c e ≡ c
  nothing_done c (Deliver a) h = delivers_nothing a c (c.token a) h
  nothing_done c (Accept a) h = accepts_nothing a c (c.token a) h

  -- an event that is enabled stays so until one is made, so at its own time at the latest one is
  -- made
  made_by_then : (event : ℕ → Event) (n k : ℕ) (e : Event) → is_enabled (state_at A N event n) e ≡ true → event (k + n) ≡ e →
      (m : ℕ) × (n ≤ m) × GoesOnAt A N event m
  made_by_then event n zero e h q =
      let start : n ≡ 0 + n = omega arith in (n, omega arith, inr (ap (is_enabled (state_at A N event n)) (ap event start ∙ q) ∙ h))
  made_by_then event n (suc k) e h q = elim (cases_Bool (is_enabled (state_at A N event n) (event n))) [
    | inl t ↦ (n, omega arith, inr t)
    | inr f ↦ (let same = run_more A N (opening A N) (first_events event n) (event n) ∙ nothing_done (state_at A N event n) (event n) f in
        let later : k + suc n ≡ suc k + n = omega arith in
        let r = made_by_then event (suc n) k e (ap (λ c. is_enabled c e) same ∙ h) (ap event later ∙ q) in
        (r.0, (let l = r.1 in omega (arith, l)), r.2))
  ]

  pub fair_goes : IsLawful A → WellFormed N → (event : ℕ → Event) → IsFairSchedule A N event → KeepsGoing A N event
  fair_goes L W event F n = elim (never_stuck A N L W (first_events event n)) [
    | inl q ↦ (n, omega arith, inl q)
    | inr e ↦ (let m = F n e.0 e.1 in
        let there : (m.0 - n) + n ≡ m.0 = (let l = m.1 in omega (arith, l)) in
        made_by_then event n (m.0 - n) e.0 e.1 (ap event there ∙ m.2))
  ]

module _ {V : Type 0} (A : Algebra V) (g : GraphData) (s : ℕ) where
  pub busy_schedule_ends : IsLawful A → IsGraph g → HasVertex g s → (event : ℕ → Event) → IsBusySchedule A (network g s) event → HasEnded (state_at A (network g s) event (2 * message_bound g s))
  busy_schedule_ends L R S event B = ends_at A (network g s) L (well_formed g s R S.0) (2 * message_bound g s) (λ es. few_events A g s L R S es) event B

  pub going_schedule_ends : IsLawful A → IsGraph g → HasVertex g s → (event : ℕ → Event) → KeepsGoing A (network g s) event → (m : ℕ) × HasEnded (state_at A (network g s) event m)
  going_schedule_ends L R S event F = ends_after A (network g s) (2 * message_bound g s) (λ es. few_events A g s L R S es) event F (2 * message_bound g s) 0 (omega arith)

  pub fair_schedule_ends : IsLawful A → IsGraph g → HasVertex g s → (event : ℕ → Event) → IsFairSchedule A (network g s) event → (m : ℕ) × HasEnded (state_at A (network g s) event m)
  fair_schedule_ends L R S event F = going_schedule_ends L R S event (fair_goes A (network g s) L (well_formed g s R S.0) event F)

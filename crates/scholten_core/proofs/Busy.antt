-- An engaged vertex has a busy arc out, through each event; so some event is enabled until the end.
use Rattle.scholten_core.proofs.Words.{◌≡◌, ◌≢◌, ℕ, zero, suc, ◌≤◌, Bool, true, false, not, ◌&&◌, ◌||◌, eqb, Option, Some, None, List, [], ◌∷◌, ◌⊎◌, refl, sym, ap, ◌∙◌, subst, inl, inr, eqb-true, arith, Contains, IsTrue, Token, Idle, Message, Held, Signal, Event, Deliver, Accept, Algebra, IsLawful, Network, WellFormed, CoreState, opening, state_after, HasEnded, is_enabled, is_idle, is_message, is_signal, all_below, pump, arrive, rest, released, freed, step, out_idle, engaged_by, answer_to, IsEngagementOrder, IsRooted, CanGoOn, put_tells, put-other, idle-false, not_in_empty, later, head_or_tail}
use Rattle.std.proofs.lemmas.Bool.{cases_eq, cases_Bool, false≢true, or_parts, not-false}
use Rattle.scholten_core.proofs.CoreInvariant.{CoreInvariant, pumped}
use Rattle.scholten_core.proofs.StepCases.{step_cases, run_cases}
use Rattle.scholten_core.proofs.Ended.{opening_kept, reached_kept, reached_rooted}

-- a test that does not pass at each number below n fails at one
all_below-fails : (p : ℕ → Bool) (n : ℕ) → all_below p n ≡ false → (k : ℕ) × (p k ≡ false)
all_below-fails p zero h = absurd (false≢true (sym h))
all_below-fails p (suc n) h = elim (cases_Bool (p n)) [
  | inl t ↦ all_below-fails p n (ap (λ b. b && all_below p n) (sym t) ∙ h)
  | inr f ↦ (n, f)
]

module _ {V : Type 0} (A : Algebra V) (N : Network) where
  -- an arc out of v is busy
  abbrev pub HasBusyOut : ℕ → CoreState V → Type 0
  HasBusyOut v c = (b : ℕ) × (N.tail b ≡ v) × (c.token b ≢ Idle)

  -- each engaged vertex has a busy arc out
  abbrev pub IsBusy : CoreState V → Type 0
  IsBusy c = (v a : ℕ) → c.engager v ≡ Some a → HasBusyOut v c

  -- the same of all vertices but e, which has still to pump and to rest
  abbrev IsBusyBut : ℕ → CoreState V → Type 0
  IsBusyBut e c = (v a : ℕ) → v ≢ e → c.engager v ≡ Some a → HasBusyOut v c

  not_out_idle : (v : ℕ) (c : CoreState V) → out_idle A N v c ≡ false → HasBusyOut v c
  unfolding out_idle
  not_out_idle v c h =
      let f = all_below-fails (λ b. not (eqb (N.tail b) v) || is_idle (c.token b)) (suc N.arcs) h in
      let p = or_parts _ _ f.1 in
      (f.0, eqb-true (N.tail f.0) v (not-false _ p.0), idle-false (c.token f.0) p.1)

  answer_busy : (o : Option ℕ) → answer_to {V = V} o ≢ Idle
  answer_busy None = λ q. cc
  answer_busy (Some e) = λ q. cc

  arrive_busy : (a : ℕ) (x : V) (c : CoreState V) → IsBusy c → IsBusyBut (N.head a) (arrive A N a x c)
  arrive_busy a x c B v e ne q =
      let h = B v e (sym (put-other c.engager (N.head a) (engaged_by (c.engager (N.head a)) a) v ne) ∙ q) in (
        h.0,
        h.1,
        λ i. elim (put_tells c.token a (answer_to (c.engager (N.head a))) h.0) [
          | inl k ↦ answer_busy (c.engager (N.head a)) (sym k.1 ∙ i)
          | inr k ↦ h.2 (sym k.1 ∙ i)
        ],
      )

  pump_busy : IsLawful A → (v e : ℕ) (c : CoreState V) → IsBusyBut e c → IsBusyBut e (pump A N v c)
  pump_busy L v e c B u a ne q =
      let h = B u a ne q in
      (h.0, h.1, λ i. elim (pumped A N L v c h.0) [ inl k ↦ h.2 k.1 | inr k ↦ h.2 (sym k.0 ∙ i) ])

  rest_busy : (v : ℕ) (c : CoreState V) → IsBusyBut v c → IsBusy (rest A N v c)
  rest_busy v c B = go (c.engager v) (out_idle A N v c) refl refl
    where
      go : (o : Option ℕ) (t : Bool) → c.engager v ≡ o → out_idle A N v c ≡ t → IsBusy (released A N v c o t)
      go None t p q u a r = B u a (λ e. let g = ap c.engager e in cc) r
      go (Some e) false p q u a r = elim (cases_eq u v) [
        | inl k ↦ (let h = not_out_idle v c q in (h.0, h.1 ∙ sym k, h.2))
        | inr n ↦ B u a n r
      ]
      go (Some e) true p q u a r = elim (put_tells c.engager v None u) [
        | inl k ↦ absurd (let g = k.1 in cc)
        | inr k ↦ (let h = B u a k.0 (sym k.1 ∙ r) in
            (h.0, h.1, λ i. elim (put_tells c.token e Signal h.0) [ inl j ↦ (let g = j.1 in cc) | inr j ↦ h.2 (sym j.1 ∙ i) ]))
      ]

  freed_busy : (a : ℕ) (c : CoreState V) → IsBusy c → IsBusyBut (N.tail a) (freed A N a c)
  freed_busy a c B v e ne q =
      let h = B v e q in
      (h.0, h.1, λ i. h.2 (sym (put-other c.token a Idle h.0 (λ k. ne (sym h.1 ∙ ap N.tail k))) ∙ i))

  -- the environment is no engaged vertex, and every other tail settles
  step_busy : IsLawful A → WellFormed N → (c : CoreState V) (e : Event) → CoreInvariant A N 0 c → IsBusy c → IsBusy (step A N c e)
  step_busy L W c e K B = step_cases A N (λ d. IsBusy d) c e B
      (λ a x _ q. rest_busy (N.head a) (pump A N (N.head a) (arrive A N a x c)) (pump_busy L (N.head a) (N.head a) (arrive A N a x c) (arrive_busy a x c B)))
      (λ q v u r. freed_busy 0 c B v u (λ z. let g = ap c.engager (z ∙ W.tail_zero) in let j = K.env_neutral in cc) r)
      (λ k q. rest_busy (N.tail (suc k)) (pump A N (N.tail (suc k)) (freed A N (suc k) c)) (pump_busy L (N.tail (suc k)) (N.tail (suc k)) (freed A N (suc k) c) (freed_busy (suc k) c B)))

  pub reached_busy : IsLawful A → WellFormed N → (es : List Event) → IsBusy (state_after A N es)
  reached_busy L W es = run_cases A N L W (λ d. IsBusy d) (λ c e. step_busy L W c e) (opening A N) es (opening_kept A N W) (λ v a q. absurd cc)

  -- a listed vertex's engager leaves the environment or a vertex listed before it
  engager_older : (f : ℕ → Option ℕ) (order : List ℕ) → IsEngagementOrder A N f order → (u b : ℕ) → Contains order u → f u ≡ Some b → (N.tail b ≡ 0) ⊎ Contains order (N.tail b)
  engager_older f [] o u b l q = absurd (not_in_empty u l)
  engager_older f (v ∷ us) o u b l q = elim (head_or_tail v u us l) [
    | inl e ↦ (let s : o.0.0 ≡ b = (let g = o.0.1 in let k = ap f e in cc) in elim o.0.2 [
      | inl z ↦ inl (ap N.tail (sym s) ∙ z)
      | inr m ↦ inr (later v (N.tail b) us (subst (λ w. Contains us w) (ap N.tail s) m))
    ])
    | inr m ↦ elim (engager_older f us o.2 u b m q) [ inl z ↦ inl z | inr k ↦ inr (later v (N.tail b) us k) ]
  ]

  -- an event that is enabled
  abbrev pub HasEnabled : CoreState V → Type 0
  HasEnabled c = (e : Event) × IsTrue (is_enabled c e)

  -- no vertex is engaged by an arc that leaves the newest one
  newest_free : (f : ℕ → Option ℕ) (v : ℕ) (us : List ℕ) → IsEngagementOrder A N f (v ∷ us) → (u b : ℕ) → Contains (v ∷ us) u → f u ≡ Some b → N.tail b ≡ v → v ≡ 0
  newest_free f v us o u b l q t = elim (head_or_tail v u us l) [
    | inl e ↦ (let s : o.0.0 ≡ b = (let g = o.0.1 in let k = ap f e in cc) in elim o.0.2 [
      | inl z ↦ sym t ∙ ap N.tail (sym s) ∙ z
      | inr m ↦ absurd (o.1 (subst (λ w. Contains us w) (ap N.tail s ∙ t) m))
    ])
    | inr m ↦ elim (engager_older f us o.2 u b m q) [ inl z ↦ sym t ∙ z | inr k ↦ absurd (o.1 (subst (λ w. Contains us w) t k)) ]
  ]

  -- at an arc that is neither idle nor held some event is enabled
  enabled_at : (b : ℕ) (c : CoreState V) (t : Token V) → c.token b ≡ t → (t ≡ Idle) ⊎ ((t ≡ Held) ⊎ HasEnabled c)
  enabled_at b c Idle q = inl refl
  enabled_at b c (Message x) q = inr (inr (Deliver b, ap is_message q))
  enabled_at b c Held q = inr (inl refl)
  enabled_at b c Signal q = inr (inr (Accept b, ap is_signal q))

  not_stuck : (c : CoreState V) → CoreInvariant A N 0 c → IsRooted A N c → IsBusy c → HasEnded c ⊎ HasEnabled c
  not_stuck c K R B = go R.0 R.1 (λ v a q. (R.2 v a q).0)
    where
      go : (order : List ℕ) → IsEngagementOrder A N c.engager order → ((v a : ℕ) → c.engager v ≡ Some a → Contains order v) → HasEnded c ⊎ HasEnabled c
      go [] o all = elim (enabled_at 0 c (c.token 0) refl) [
        | inl i ↦ inl i
        | inr h ↦ elim h [ inl k ↦ absurd (not_in_empty (N.head 0) (all (N.head 0) 0 (K.held_engager 0 k))) | inr e ↦ inr e ]
      ]
      go (v ∷ us) o all =
          let w = B v o.0.0 o.0.1 in
          elim (enabled_at w.0 c (c.token w.0) refl) [
            | inl i ↦ absurd (w.2 i)
            | inr h ↦ elim h [
              | inl k ↦ absurd (let g = K.held_engager w.0 k in
                  let z = newest_free c.engager v us o (N.head w.0) w.0 (all (N.head w.0) w.0 g) g w.1 in
                  let y = ap c.engager z in let j = K.env_neutral in let n = o.0.1 in cc)
              | inr e ↦ inr e
            ]
          ]

  -- after every list of events the environment's arc is idle or some event is enabled
  pub never_stuck : IsLawful A → WellFormed N → (es : List Event) → HasEnded (state_after A N es) ⊎ HasEnabled (state_after A N es)
  never_stuck L W es = not_stuck (state_after A N es) (reached_kept A N L W es) (reached_rooted A N L W es) (reached_busy L W es)

  -- an arc that carries something is arc 0 or one of the graph
  busy_inside : WellFormed N → (c : CoreState V) → CoreInvariant A N 0 c → (a : ℕ) → c.token a ≢ Idle → a ≤ N.arcs
  busy_inside W c K a q = elim (cases_eq (N.tail a) 0) [
    | inl z ↦ elim (cases_eq a 0) [
      | inl e ↦ omega (arith, e)
      | inr n ↦ absurd (q (K.neutral_idle a n (ap c.engager z ∙ K.env_neutral)))
    ]
    | inr n ↦ W.real a n
  ]

  enabled_inside : WellFormed N → (c : CoreState V) → CoreInvariant A N 0 c → HasEnabled c → CanGoOn N c
  enabled_inside W c K (Deliver a, h) = (a, busy_inside W c K a (λ i. false≢true (sym (ap is_message i) ∙ h)), inl h)
  enabled_inside W c K (Accept a, h) = (a, busy_inside W c K a (λ i. false≢true (sym (ap is_signal i) ∙ h)), inr h)

  -- the same, with the arc
  pub goes_on : IsLawful A → WellFormed N → (es : List Event) → HasEnded (state_after A N es) ⊎ CanGoOn N (state_after A N es)
  goes_on L W es = elim (never_stuck L W es) [
    | inl q ↦ inl q
    | inr e ↦ inr (enabled_inside W (state_after A N es) (reached_kept A N L W es) e)
  ]

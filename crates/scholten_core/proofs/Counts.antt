-- The counts of events against the tokens that stand.
use Rattle.scholten_core.proofs.Words.{◌≡◌, ◌≢◌, ℕ, suc, ◌+◌, ◌<◌, ◌≤◌, true, false, not, ◌&&◌, cond, eqb, ne_eqb, eq-eqb, Option, Some, None, List, [], ◌∷◌, ◌⊎◌, refl, sym, ap, ◌∙◌, subst, inl, inr, arith, cases_eq, cond-true, cond-false, Token, Idle, Message, Held, Signal, Event, Algebra, IsLawful, Network, WellFormed, CoreState, state_after, opening, put, run_from, is_message, is_signal, out_idle, pump, arrive, freed, settle, step, sent, extend_label, answer_to, sum_below, one_if, put_tells, put-same, put-other, sent_held, sum_same, sum_zero, sum_add, sum_at}
use Rattle.scholten_core.specs.Accounts.{count_sent, count_signalled, is_delivery, is_acceptance, sent_total, signalled_total, delivered_total, accepted_total}
use Rattle.scholten_core.proofs.Ended.{opening_kept, ended}
use Rattle.scholten_core.proofs.CoreInvariant.{CoreInvariant, pumped, arrive_kept, freed_kept, step_kept}
use Rattle.scholten_core.proofs.StepCases.{counted_cases, released_changes, held_pumped}

module _ {V : Type 0} (A : Algebra V) (N : Network) where
  -- what settling may do to one arc's token
  abbrev Changes : Token V → Token V → Type 0
  Changes t u = (u ≡ t) ⊎ (((t ≡ Idle) × ((y : V) × (u ≡ Message y))) ⊎ ((t ≡ Held) × (u ≡ Signal)))

  sent_changes : (t u : Token V) (o : Option V) → t ≡ Idle → u ≡ sent o → Changes t u
  sent_changes t u None p q = inl (q ∙ sym p)
  sent_changes t u (Some y) p q = inr (inl (p, (y, q)))

  settle_changes : IsLawful A → (v : ℕ) (c : CoreState V) → ((e : ℕ) → c.engager v ≡ Some e → c.token e ≡ Held) → (b : ℕ) → Changes (c.token b) ((settle A N v c).token b)
  settle_changes L v c h b = elim (released_changes A N v (pump A N v c) (c.engager v) (out_idle A N v (pump A N v c)) b (λ e q. held_pumped A N L v c e (h e q))) [
    | inl k ↦ (elim (pumped A N L v c b) [ inl p ↦ sent_changes _ _ (extend_label A (c.label v) (N.weight b)) p.1 (k ∙ p.2) | inr p ↦ inl (k ∙ p.0) ])
    | inr k ↦ (elim (pumped A N L v c b) [
      | inl p ↦ absurd (sent_held A N (extend_label A (c.label v) (N.weight b)) (sym p.2 ∙ k.0))
      | inr p ↦ inr (inr (sym p.0 ∙ k.0, k.1))
    ])
  ]

  abbrev message_if : Token V → ℕ
  message_if t = one_if (is_message t)

  abbrev signal_if : Token V → ℕ
  signal_if t = one_if (is_signal t)

  abbrev held_if : Token V → ℕ
  held_if Idle = 0
  held_if (Message x) = 0
  held_if Held = 1
  held_if Signal = 0

  abbrev new_message : Token V → Token V → ℕ
  new_message t u = one_if (is_message u && not (is_message t))

  abbrev new_signal : Token V → Token V → ℕ
  new_signal t u = one_if (is_signal u && not (is_signal t))

  -- the three balances at one arc: d is 1 where this arc's message is delivered, s where its signal
  -- is accepted
  abbrev Balance : (t u : Token V) (d s : ℕ) → Type 0
  Balance t u d s = (message_if u + d ≡ message_if t + new_message t u) × (held_if u + new_signal t u ≡ held_if t + d) × (signal_if u + s ≡ signal_if t + new_signal t u)

  balance_same : (t : Token V) → Balance t t 0 0
  balance_same Idle = (refl, refl, refl)
  balance_same (Message x) = (refl, refl, refl)
  balance_same Held = (refl, refl, refl)
  balance_same Signal = (refl, refl, refl)

  balance_changes : (t u : Token V) → Changes t u → Balance t u 0 0
  balance_changes t u (inl e) = rw e (balance_same t)
  balance_changes t u (inr (inl h)) = rw (h.0, h.1.1) (refl, refl, refl)
  balance_changes t u (inr (inr h)) = rw (h.0, h.1) (refl, refl, refl)

  -- where a message was
  balance_answered : (x : V) (o : Option ℕ) (u : Token V) → Changes (answer_to o) u → Balance (Message x) u 1 0
  balance_answered x None u (inl e) = rw e (refl, refl, refl)
  balance_answered x None u (inr (inl h)) = absurd (let g = h.0 in cc)
  balance_answered x None u (inr (inr h)) = rw h.1 (refl, refl, refl)
  balance_answered x (Some e) u (inl f) = rw f (refl, refl, refl)
  balance_answered x (Some e) u (inr (inl h)) = absurd (let g = h.0 in cc)
  balance_answered x (Some e) u (inr (inr h)) = absurd (let g = h.0 in cc)

  -- where a signal was
  balance_freed : (u : Token V) → Changes Idle u → Balance Signal u 0 1
  balance_freed u (inl e) = rw e (refl, refl, refl)
  balance_freed u (inr (inl h)) = rw h.1.1 (refl, refl, refl)
  balance_freed u (inr (inr h)) = absurd (let g = h.0 in cc)

  abbrev messages_in : CoreState V → ℕ
  messages_in c = sum_below (λ b. message_if (c.token b)) (suc N.arcs)

  abbrev helds_in : CoreState V → ℕ
  helds_in c = sum_below (λ b. held_if (c.token b)) (suc N.arcs)

  abbrev signals_in : CoreState V → ℕ
  signals_in c = sum_below (λ b. signal_if (c.token b)) (suc N.arcs)

  -- the balances over all arcs
  record Balanced (c u : CoreState V) (d s : ℕ) : Type 0 where
    messages : messages_in u + d ≡ messages_in c + count_sent A N c u
    held : helds_in u + count_signalled A N c u ≡ helds_in c + d
    signals : signals_in u + s ≡ signals_in c + count_signalled A N c u

  sums : (f g h k : ℕ → ℕ) (n : ℕ) → ((b : ℕ) → f b + g b ≡ h b + k b) → sum_below f n + sum_below g n ≡ sum_below h n + sum_below k n
  sums f g h k n e = sym (sum_add f g n) ∙ sum_same _ _ n e ∙ sum_add h k n

  balanced : (c u : CoreState V) (d s : ℕ → ℕ) (m n : ℕ) → sum_below d (suc N.arcs) ≡ m → sum_below s (suc N.arcs) ≡ n →
      ((b : ℕ) → Balance (c.token b) (u.token b) (d b) (s b)) → Balanced c u m n
  balanced c u d s m n p q h =
      let news = λ (b : ℕ). new_signal (c.token b) (u.token b) in
      record {
        messages = ap (λ k. messages_in u + k) (sym p)
            ∙ sums (λ b. message_if (u.token b)) d (λ b. message_if (c.token b)) (λ b. new_message (c.token b) (u.token b)) (suc N.arcs) (λ b. (h b).0);
        held = sums (λ b. held_if (u.token b)) news (λ b. held_if (c.token b)) d (suc N.arcs) (λ b. (h b).1) ∙ ap (λ k. helds_in c + k) p;
        signals = ap (λ k. signals_in u + k) (sym q) ∙ sums (λ b. signal_if (u.token b)) s (λ b. signal_if (c.token b)) news (suc N.arcs) (λ b. (h b).2);
      }

  no_sum : sum_below (λ b. 0) (suc N.arcs) ≡ 0
  no_sum = sum_zero (λ b. 0) (suc N.arcs) (λ b. refl)

  only_at : (a d : ℕ) → a < suc N.arcs → sum_below (λ b. cond (eqb b a) d 0) (suc N.arcs) ≡ d
  only_at a d l =
      let s = sum_at (λ b. cond (eqb b a) d 0) (λ b. 0) a (suc N.arcs) l (λ b n. cond-false (eqb b a) d 0 (ne_eqb b a n)) in
      let e = cond-true (eqb a a) d 0 (eq-eqb a a refl) in let z = no_sum in omega (arith, s, e, z)

  -- one arc's token was p and is t, then a vertex settles
  one_arc : (c u : CoreState V) (a : ℕ) (p t : Token V) (d s : ℕ) → a < suc N.arcs → c.token a ≡ p → ((q : Token V) → Changes t q → Balance p q d s) →
      ((b : ℕ) → Changes (put c.token a t b) (u.token b)) → Balanced c u d s
  one_arc c u a p t d s l e at h = balanced c u (λ b. cond (eqb b a) d 0) (λ b. cond (eqb b a) s 0) d s (only_at a d l) (only_at a s l)
      (λ b. elim (put_tells c.token a t b) [
        | inl k ↦ (let g : eqb b a ≡ true = eq-eqb b a k.0 in rw (g, ap c.token k.0 ∙ e) (at (u.token b) (subst (λ x. Changes x (u.token b)) k.1 (h b))))
        | inr k ↦ (let g : eqb b a ≡ false = ne_eqb b a k.0 in rw g (balance_changes (c.token b) (u.token b) (subst (λ x. Changes x (u.token b)) k.1 (h b))))
      ])

  busy_real : WellFormed N → (a : ℕ) (c : CoreState V) → CoreInvariant A N 0 c → c.token a ≢ Idle → a < suc N.arcs
  busy_real W a c K n = elim (cases_eq a 0) [
    | inl e ↦ omega arith
    | inr nz ↦ (let r = W.real a (λ z. n (K.neutral_idle a nz (ap c.engager z ∙ K.env_neutral))) in omega arith)
  ]

  step_balanced : IsLawful A → WellFormed N → (c : CoreState V) (e : Event) → CoreInvariant A N 0 c → Balanced c (step A N c e) (one_if (is_delivery A N c e)) (one_if (is_acceptance A N c e))
  step_balanced L W c e K = counted_cases A N (λ u d s. Balanced c u (one_if d) (one_if s)) c e
      (balanced c c (λ b. 0) (λ b. 0) 0 0 no_sum no_sum (λ b. balance_same (c.token b)))
      (λ a x _ q. one_arc c (settle A N (N.head a) (arrive A N a x c)) a (Message x) (answer_to (c.engager (N.head a))) 1 0 (busy_real W a c K (λ z. cc)) q
      (balance_answered x (c.engager (N.head a))) (settle_changes L (N.head a) (arrive A N a x c) (λ e r. ((arrive_kept A N L W a x c q K).engager_held (N.head a) e r).0)))
      (λ q. one_arc c (freed A N 0 c) 0 Signal Idle 0 1 (omega arith) q balance_freed (λ b. inl refl))
      (λ k q. one_arc c (settle A N (N.tail (suc k)) (freed A N (suc k) c)) (suc k) Signal Idle 0 1 (busy_real W (suc k) c K (λ z. cc)) q
      balance_freed (settle_changes L (N.tail (suc k)) (freed A N (suc k) c) (λ e r. ((freed_kept A N W (suc k) c q K).engager_held (N.tail (suc k)) e r).0)))

  -- over a list of events, the four totals against the tokens that stand
  pub record Accounts (c u : CoreState V) (sent delivered signalled accepted : ℕ) : Type 0 where
    pub messages : messages_in u + delivered ≡ messages_in c + sent
    pub held : helds_in u + signalled ≡ helds_in c + delivered
    pub signals : signals_in u + accepted ≡ signals_in c + signalled

  pub accounts : IsLawful A → WellFormed N → (c : CoreState V) (es : List Event) → CoreInvariant A N 0 c →
      Accounts c (run_from A N c es) (sent_total A N c es) (delivered_total A N c es) (signalled_total A N c es) (accepted_total A N c es)
  accounts L W c [] K = record { messages = refl; held = refl; signals = refl }
  accounts L W c (e ∷ es) K =
      let B = step_balanced L W c e K in
      let R = accounts L W (step A N c e) es (step_kept A N L W c e K) in
      record {
        messages = (let p = B.messages in let q = R.messages in omega (arith, p, q));
        held = (let p = B.held in let q = R.held in omega (arith, p, q));
        signals = (let p = B.signals in let q = R.signals in omega (arith, p, q));
      }

  -- at the opening there is one message, and all else is idle
  opened_sum : (f : Token V → ℕ) → f Idle ≡ 0 → sum_below (λ b. f ((opening A N).token b)) (suc N.arcs) ≡ f (Message A.origin)
  opened_sum f z =
      let s = sum_at (λ b. f ((opening A N).token b)) (λ b. 0) 0 (suc N.arcs) (omega arith) (λ b n. ap f (put-other (λ _. Idle) 0 (Message A.origin) b n) ∙ z) in
      let e = ap f (put-same (λ _. Idle) 0 (Message A.origin)) in let n = no_sum in omega (arith, s, e, n)

  one_message : messages_in (opening A N) ≡ 1
  one_message = opened_sum (λ t. message_if t) refl

  no_held : helds_in (opening A N) ≡ 0
  no_held = opened_sum (λ t. held_if t) refl

  no_signal : signals_in (opening A N) ≡ 0
  no_signal = opened_sum (λ t. signal_if t) refl

  -- in an ended run the four totals are equal, the opening's message counted
  pub all_equal : IsLawful A → WellFormed N → (es : List Event) → (state_after A N es).token 0 ≡ Idle →
      (delivered_total A N (opening A N) es ≡ 1 + sent_total A N (opening A N) es) × (signalled_total A N (opening A N) es ≡ delivered_total A N (opening A N) es)
      × (accepted_total A N (opening A N) es ≡ signalled_total A N (opening A N) es)
  all_equal L W es q =
      let R = accounts L W (opening A N) es (opening_kept A N W) in
      let Q = (ended A N L W es q).0 in
      let m = sum_zero (λ b. message_if ((state_after A N es).token b)) (suc N.arcs) (λ b. ap (λ t. message_if t) (Q.0 b)) in
      let h = sum_zero (λ b. held_if ((state_after A N es).token b)) (suc N.arcs) (λ b. ap (λ t. held_if t) (Q.0 b)) in
      let s = sum_zero (λ b. signal_if ((state_after A N es).token b)) (suc N.arcs) (λ b. ap (λ t. signal_if t) (Q.0 b)) in
      let x = R.messages in let y = R.held in let z = R.signals in let a = one_message in let b = no_held in let d = no_signal in
      ((omega (arith, x, m, a)), (omega (arith, y, h, b)), (omega (arith, z, s, d)))

  -- no more is delivered than was sent, and no more is accepted than was delivered
  pub never_more : IsLawful A → WellFormed N → (es : List Event) →
      (delivered_total A N (opening A N) es ≤ 1 + sent_total A N (opening A N) es) × (accepted_total A N (opening A N) es ≤ delivered_total A N (opening A N) es)
  never_more L W es =
      let R = accounts L W (opening A N) es (opening_kept A N W) in
      let x = R.messages in let y = R.held in let z = R.signals in let a = one_message in let b = no_held in let d = no_signal in
      (omega (arith, x, a), omega (arith, y, z, b, d))

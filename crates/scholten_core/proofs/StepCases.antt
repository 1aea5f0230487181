-- What an event does: nothing, or the token of one arc changes and a vertex settles.
use Rattle.scholten_core.proofs.Words.{◌≡◌, ◌≢◌, ℕ, zero, suc, Bool, true, false, Option, Some, None, List, [], ◌∷◌, ◌⊎◌, inl, inr, refl, ap, ◌∙◌, arith, Token, Idle, Message, Held, Signal, Event, Deliver, Accept, Algebra, IsLawful, Network, WellFormed, CoreState, is_message, is_signal, engaged_by, out_idle, pump, arrive, freed, released, settle, settle_tail, delivered, accepted, step, run_from, is_delivery, is_acceptance, put_tells, put-same}
use Rattle.scholten_core.proofs.CoreInvariant.{CoreInvariant, pumped, head_real, arrive_kept, freed_kept, pump_kept, step_kept}

module _ {V : Type 0} (A : Algebra V) (N : Network) where
  -- A message arrives and the head of its arc settles; or a signal's arc gets idle and its tail
  -- settles, unless it is the environment. With it: whether a message was delivered, and whether a
  -- signal was accepted.
  pub counted_cases : (P : CoreState V → Bool → Bool → Type 0) (c : CoreState V) (e : Event) → P c false false
      → ((a : ℕ) (x : V) → e ≡ Deliver a → c.token a ≡ Message x → P (settle A N (N.head a) (arrive A N a x c)) true false)
      → (c.token 0 ≡ Signal → P (freed A N 0 c) false true)
      → ((k : ℕ) → c.token (suc k) ≡ Signal → P (settle A N (N.tail (suc k)) (freed A N (suc k) c)) false true)
      → P (step A N c e) (is_delivery A N c e) (is_acceptance A N c e)
  counted_cases P c (Deliver a) none arrives entry frees = by_token (c.token a) refl
    where
      by_token : (t : Token V) → c.token a ≡ t → P (delivered A N a c t) (is_message t) false
      by_token Idle q = none
      by_token (Message x) q = arrives a x refl q
      by_token Held q = none
      by_token Signal q = none
  counted_cases P c (Accept a) none arrives entry frees = by_token (c.token a) refl
    where
      by_arc : (b : ℕ) → c.token b ≡ Signal → P (settle_tail A N b (N.tail b) (freed A N b c)) false true
      by_arc zero q = entry q
      by_arc (suc k) q = frees k q

      by_token : (t : Token V) → c.token a ≡ t → P (accepted A N a c t) false (is_signal t)
      by_token Idle q = none
      by_token (Message x) q = none
      by_token Held q = none
      by_token Signal q = by_arc a q

  pub step_cases : (P : CoreState V → Type 0) (c : CoreState V) (e : Event) → P c
      → ((a : ℕ) (x : V) → e ≡ Deliver a → c.token a ≡ Message x → P (settle A N (N.head a) (arrive A N a x c)))
      → (c.token 0 ≡ Signal → P (freed A N 0 c))
      → ((k : ℕ) → c.token (suc k) ≡ Signal → P (settle A N (N.tail (suc k)) (freed A N (suc k) c)))
      → P (step A N c e)
  step_cases P c e none arrives entry frees = counted_cases (λ d _ _. P d) c e none arrives entry frees

  -- what each event keeps, a run keeps
  pub run_cases : IsLawful A → WellFormed N → (P : CoreState V → Type 0) → ((c : CoreState V) (e : Event) → CoreInvariant A N 0 c → P c → P (step A N c e))
      → (c : CoreState V) (es : List Event) → CoreInvariant A N 0 c → P c → P (run_from A N c es)
  run_cases L W P keeps c [] K p = p
  run_cases L W P keeps c (e ∷ es) K p = run_cases L W P keeps (step A N c e) es (step_kept A N L W c e K) (keeps c e K p)

  -- the vertex that settles has an engager
  pub head_pumped : IsLawful A → WellFormed N → (a : ℕ) (x : V) (c : CoreState V) → c.token a ≡ Message x → CoreInvariant A N 0 c → CoreInvariant A N 0 (pump A N (N.head a) (arrive A N a x c))
  head_pumped L W a x c q K =
      let e = engaged (c.engager (N.head a)) in
      pump_kept A N L W (N.head a) e.0 (arrive A N a x c) (head_real A N W 0 a c K (λ z. cc))
      (put-same c.engager (N.head a) (engaged_by (c.engager (N.head a)) a) ∙ e.1) (arrive_kept A N L W a x c q K)
    where
      engaged : (o : Option ℕ) → (e : ℕ) × (engaged_by o a ≡ Some e)
      engaged None = (a, refl)
      engaged (Some e) = (e, refl)

  pub tail_real : (k : ℕ) (c : CoreState V) → c.token (suc k) ≡ Signal → CoreInvariant A N 0 c → N.tail (suc k) ≢ 0
  tail_real k c q K z = let g = K.neutral_idle (suc k) (λ y. omega arith) (ap c.engager z ∙ K.env_neutral) in cc

  pub tail_pumped : IsLawful A → WellFormed N → (k : ℕ) (c : CoreState V) → c.token (suc k) ≡ Signal → CoreInvariant A N 0 c → CoreInvariant A N 0 (pump A N (N.tail (suc k)) (freed A N (suc k) c))
  tail_pumped L W k c q K =
      let e = engaged (c.engager (N.tail (suc k))) refl in
      pump_kept A N L W (N.tail (suc k)) e.0 (freed A N (suc k) c) (tail_real k c q K) e.1 (freed_kept A N W (suc k) c q K)
    where
      engaged : (o : Option ℕ) → c.engager (N.tail (suc k)) ≡ o → (e : ℕ) × (c.engager (N.tail (suc k)) ≡ Some e)
      engaged None h = absurd (let g = K.neutral_idle (suc k) (λ z. omega arith) h in cc)
      engaged (Some e) h = (e, h)

  -- what settling leaves
  pub released_changes : (v : ℕ) (c : CoreState V) (o : Option ℕ) (t : Bool) (b : ℕ) → ((e : ℕ) → o ≡ Some e → c.token e ≡ Held) →
      ((released A N v c o t).token b ≡ c.token b) ⊎ ((c.token b ≡ Held) × ((released A N v c o t).token b ≡ Signal))
  released_changes v c None t b h = inl refl
  released_changes v c (Some e) false b h = inl refl
  released_changes v c (Some e) true b h = elim (put_tells c.token e Signal b) [
    | inl k ↦ inr (ap c.token k.0 ∙ h e refl, k.1)
    | inr k ↦ inl k.1
  ]

  pub held_pumped : IsLawful A → (v : ℕ) (c : CoreState V) (e : ℕ) → c.token e ≡ Held → (pump A N v c).token e ≡ Held
  held_pumped L v c e h = elim (pumped A N L v c e) [ inl k ↦ absurd (let g = k.1 in cc) | inr k ↦ k.0 ∙ h ]

  pub rest_told : (v : ℕ) (c : CoreState V) (o : Option ℕ) (t : Bool) → (released A N v c o t).told ≡ c.told
  rest_told v c None t = refl
  rest_told v c (Some e) false = refl
  rest_told v c (Some e) true = refl

  pub rest_label : (v : ℕ) (c : CoreState V) (o : Option ℕ) (t : Bool) → (released A N v c o t).label ≡ c.label
  rest_label v c None t = refl
  rest_label v c (Some e) false = refl
  rest_label v c (Some e) true = refl

  pub settle_label : (v : ℕ) (d : CoreState V) → (settle A N v d).label ≡ d.label
  settle_label v d = rest_label v (pump A N v d) (d.engager v) (out_idle A N v (pump A N v d))

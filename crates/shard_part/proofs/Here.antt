-- What a part does to its own tables is what the event does to its share.
use Rattle.shard_part.proofs.Words.{◌≡◌, ℕ, zero, suc, Bool, true, false, Option, Some, None, refl, sym, ap, ◌∙◌, subst, inl, inr, Message, Held, Signal, Deliver, Accept, MessageOn, SignalOn, Algebra, Lawful, Network, WellFormed, Agree, arrive_here, rest_here, settle_here, settle_tail_here, taken, put_tells, put-at, put-other}
use Rattle.scholten_core.specs.Diffusion.{CoreState, is_idle, pump, out_idle, arrive, released, freed, settle, settle_tail, delivered, accepted, step, answer_to}
use Rattle.scholten_core.proofs.CoreInvariant.{CoreInvariant, arrive_kept, freed_kept}
use Rattle.scholten_core.proofs.StepCases.{held_pumped}
use Rattle.scholten_core.proofs.Shares.{arrive_agree, pump_agree, freed_agree, out_idle_agree}

module _ {V : Type 0} (A : Algebra V) (N : Network) where
  pub arrive_here_agree : (mine : ℕ → Bool) (a : ℕ) (x : V) (c d : CoreState V) → mine (N.head a) ≡ true → c.token a ≡ Message x → Agree A N mine c d
      → Agree A N mine (arrive A N a x c) (arrive_here A N a x d)
  arrive_here_agree mine a x c d m q G =
      let U = arrive_agree A N mine a x c d m G in record {
        label = U.label;
        engager = U.engager;
        told = G.told;
        idle = λ b h. elim (put_tells c.token a (answer_to (c.engager (N.head a))) b) [
          | inl k ↦ G.idle b h ∙ ap (λ j. is_idle (c.token j)) k.0 ∙ ap is_idle q ∙ sym (busy (c.engager (N.head a))) ∙ ap is_idle (sym k.1)
          | inr k ↦ G.idle b h ∙ ap is_idle (sym k.1)
        ];
      }
    where
      busy : (o : Option ℕ) → is_idle {V = V} (answer_to o) ≡ false
      busy None = refl
      busy (Some e) = refl

  rest_here_agree : (mine : ℕ → Bool) (v : ℕ) (c d : CoreState V) (o : Option ℕ) (t : Bool) → ((e : ℕ) → o ≡ Some e → c.token e ≡ Held)
      → Agree A N mine c d → Agree A N mine (released A N v c o t) (rest_here A N v d o t)
  rest_here_agree mine v c d None t held G = G
  rest_here_agree mine v c d (Some e) false held G = G
  rest_here_agree mine v c d (Some e) true held G = record {
    label = G.label;
    engager = λ u h. elim (put_tells c.engager v None u) [
      | inl k ↦ put-at d.engager v None u k.0 ∙ sym k.1
      | inr k ↦ put-other d.engager v None u k.0 ∙ G.engager u h ∙ sym k.1
    ];
    told = G.told;
    idle = λ b h. elim (put_tells c.token e Signal b) [
      | inl k ↦ G.idle b h ∙ ap (λ j. is_idle (c.token j)) k.0 ∙ ap is_idle (held e refl) ∙ ap is_idle (sym k.1)
      | inr k ↦ G.idle b h ∙ ap is_idle (sym k.1)
    ];
  }

  pub settle_here_agree : Lawful A → (mine : ℕ → Bool) (v : ℕ) (c d : CoreState V) → mine v ≡ true
      → ((e : ℕ) → c.engager v ≡ Some e → c.token e ≡ Held) → Agree A N mine c d → Agree A N mine (settle A N v c) (settle_here A N v d)
  settle_here_agree L mine v c d m held G =
      let P = pump_agree A N mine v c d m G in
      subst (Agree A N mine (settle A N v c)) (λ i. rest_here A N v (pump A N v d) (sym (G.engager v m) i) (sym (out_idle_agree A N mine v (pump A N v c) (pump A N v d) m P) i))
      (rest_here_agree mine v (pump A N v c) (pump A N v d) (c.engager v) (out_idle A N v (pump A N v c)) (λ e q. held_pumped A N L v c e (held e q)) P)

  pub message_here : Lawful A → WellFormed N → (mine : ℕ → Bool) (a : ℕ) (x : V) (c d : CoreState V) → mine (N.head a) ≡ true → c.token a ≡ Message x
      → CoreInvariant A N 0 c → Agree A N mine c d → Agree A N mine (step A N c (Deliver a)) (taken A N (MessageOn a x) d)
  message_here L W mine a x c d m q K G = subst (λ t. Agree A N mine (delivered A N a c t) (taken A N (MessageOn a x) d)) (sym q)
      (settle_here_agree L mine (N.head a) (arrive A N a x c) (arrive_here A N a x d) m (λ e r. ((arrive_kept A N L W a x c q K).engager_held (N.head a) e r).0) (arrive_here_agree mine a x c d m q G))

  pub signal_here : Lawful A → WellFormed N → (mine : ℕ → Bool) (a : ℕ) (c d : CoreState V) → mine (N.tail a) ≡ true → c.token a ≡ Signal
      → CoreInvariant A N 0 c → Agree A N mine c d → Agree A N mine (step A N c (Accept a)) (taken A N (SignalOn a) d)
  signal_here L W mine a c d m q K G = subst (λ t. Agree A N mine (accepted A N a c t) (taken A N (SignalOn a) d)) (sym q) (go a)
    where
      go : (k : ℕ) → Agree A N mine (settle_tail A N k (N.tail a) (freed A N a c)) (settle_tail_here A N k (N.tail a) (freed A N a d))
      go zero = freed_agree A N mine a c d G
      go (suc k) = settle_here_agree L mine (N.tail a) (freed A N a c) (freed A N a d) m (λ e r. ((freed_kept A N W a c q K).engager_held (N.tail a) e r).0) (freed_agree A N mine a c d G)

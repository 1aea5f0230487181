-- Pumping in code: arc by arc, and not at all where nothing is due.
use Rattle.scholten_core.proofs.Words.{◌≡◌, ℕ, ◌+◌, ◌<◌, ◌≤◌, false, Some, List, length, get_or, sym, ap, ◌∙◌, subst, arith, cond-false, Algebra, IsLawful, Network, CoreState, improves, is_idle, arrive, freed, pump, pump_one, IdleIsTold, CoreView, state_of, network_of, network_in, idle-false}
use Rattle.scholten_core.proofs.Networks.{OutOf}
use Rattle.scholten_core.proofs.Offered.{Offered, offered_more, offered_all}
use Rattle.scholten_core.proofs.Quick.{pump_nothing, pump_alone, quiet_arrival, quiet_acceptance}

module _ {S V : Type 0} (meaning : S → Algebra V) where
  pub offered_step : (old mid new : CoreView S V) (v b : ℕ) (xs : List ℕ) (k : ℕ) → mid.diffusion ≡ old.diffusion →
      Offered (meaning old.diffusion.algebra) (network_of old) v xs k (state_of old) (state_of mid) → OutOf (network_of old) v xs → k < length xs → b ≡ get_or xs k 0 →
      state_of new ≡ pump_one (meaning mid.diffusion.algebra) (network_of mid) v b (state_of mid) →
      Offered (meaning old.diffusion.algebra) (network_of old) v xs (k + 1) (state_of old) (state_of new)
  offered_step old mid new v b xs k s O W l at e =
      let e2 : state_of new ≡ pump_one (meaning old.diffusion.algebra) (network_of old) v (get_or xs k 0) (state_of mid) =
      e ∙ (λ i. pump_one (meaning (s i).algebra) (network_in (s i)) v (at i) (state_of mid)) in
      subst (λ c. Offered (meaning old.diffusion.algebra) (network_of old) v xs (k + 1) (state_of old) c) (sym e2)
      (offered_more (meaning old.diffusion.algebra) (network_of old) v xs k (state_of old) (state_of mid) (λ j m. W.apart j k m l) O)

  pub offered_end : (old new : CoreView S V) (v : ℕ) (xs : List ℕ) (k : ℕ) →
      Offered (meaning old.diffusion.algebra) (network_of old) v xs k (state_of old) (state_of new) → OutOf (network_of old) v xs → k ≡ length xs →
      state_of new ≡ pump (meaning old.diffusion.algebra) (network_of old) v (state_of old)
  offered_end old new v xs k O W e =
      offered_all (meaning old.diffusion.algebra) (network_of old) v xs (state_of old) (state_of new) W.all W.tail
      (subst (λ j. Offered (meaning old.diffusion.algebra) (network_of old) v xs j (state_of old) (state_of new)) e O)

  pub pump_leaves : (old mid new : CoreView S V) (v : ℕ) (c : CoreState V) → mid.diffusion ≡ old.diffusion → state_of mid ≡ c →
      state_of new ≡ pump (meaning mid.diffusion.algebra) (network_of mid) v (state_of mid) → state_of new ≡ pump (meaning old.diffusion.algebra) (network_of old) v c
  pump_leaves old mid new v c s p q = q ∙ (λ i. pump (meaning (s i).algebra) (network_in (s i)) v (p i))

  pub offer_then : (old mid new : CoreView S V) (v b : ℕ) (c : CoreState V) → mid.diffusion ≡ old.diffusion → state_of mid ≡ c →
      state_of new ≡ pump_one (meaning mid.diffusion.algebra) (network_of mid) v b (state_of mid) → state_of new ≡ pump_one (meaning old.diffusion.algebra) (network_of old) v b c
  offer_then old mid new v b c s p q = q ∙ (λ i. pump_one (meaning (s i).algebra) (network_in (s i)) v b (p i))

module _ {V : Type 0} (A : Algebra V) (N : Network) where
  -- a message that does not improve: the pump would do nothing
  pub unimproved_pump : IsLawful A → (a v : ℕ) (x : V) (c : CoreState V) → v ≡ N.head a → 1 ≤ v → is_idle (c.token a) ≡ false → IdleIsTold N c → improves A x (c.label v) ≡ false →
      arrive A N a x c ≡ pump A N v (arrive A N a x c)
  unimproved_pump L a v x c h l b T f =
      sym (ap (λ u. pump A N u (arrive A N a x c)) h ∙ pump_nothing A N (N.head a) (arrive A N a x c)
      (quiet_arrival A N L a x c (λ z. omega (arith, h, l, z)) (idle-false (c.token a) b) T
      (cond-false (improves A x (c.label (N.head a))) (Some x) (c.label (N.head a)) (ap (λ u. improves A x (c.label u)) (sym h) ∙ f))))

  -- a signal: the pump would look at its own arc alone
  pub freed_pump : IsLawful A → (a v : ℕ) (c : CoreState V) → v ≡ N.tail a → 1 ≤ v → IdleIsTold N c → pump_one A N v a (freed A N a c) ≡ pump A N v (freed A N a c)
  freed_pump L a v c h l T =
      ap (λ u. pump_one A N u a (freed A N a c)) h
      ∙ sym (pump_alone A N (N.tail a) a (freed A N a c) (quiet_acceptance A N L a c (λ z. omega (arith, h, l, z)) T))
      ∙ ap (λ u. pump A N u (freed A N a c)) (sym h)

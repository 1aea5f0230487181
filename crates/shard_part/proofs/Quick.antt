-- What an item leaves offered, and when nothing has to be sent.
use Rattle.shard_part.proofs.Words.{◌≡◌, ◌≢◌, ℕ, zero, suc, Bool, true, false, Option, Some, None, refl, sym, ap, ◌∙◌, subst, inl, inr, cases_eq, Idle, Item, MessageOn, SignalOn, Algebra, Lawful, Network, WellFormed, CoreState, is_due, out_idle, pump, freed, better_of, arrive_here, rest_here, settle_here, settle_tail_here, taken, put-same, put-other}
use Rattle.scholten_core.proofs.CoreInvariant.{pumped}
use Rattle.scholten_core.proofs.Quick.{HasTold, told_not_due}

module _ {V : Type 0} (A : Algebra V) (N : Network) where
  arrive_told : (mine : ℕ → Bool) (a : ℕ) (x : V) (d : CoreState V) → HasTold A N mine 0 d → HasTold A N mine (N.head a) (arrive_here A N a x d)
  arrive_told mine a x d H b m n ne i = H b m n n i ∙ sym (put-other d.label (N.head a) _ (N.tail b) ne)

  freed_told : (mine : ℕ → Bool) (a : ℕ) (d : CoreState V) → HasTold A N mine 0 d → HasTold A N mine (N.tail a) (freed A N a d)
  freed_told mine a d H b m n ne i = H b m n n (sym (put-other d.token a Idle b (λ e. ne (ap N.tail e))) ∙ i)

  pump_told : Lawful A → (mine : ℕ → Bool) (v : ℕ) (d : CoreState V) → HasTold A N mine v d → HasTold A N mine 0 (pump A N v d)
  pump_told L mine v d H b m n ne i = elim (pumped A N L v d b) [
    | inl k ↦ k.3 ∙ ap d.label (sym k.0)
    | inr k ↦ k.1 ∙ (elim (cases_eq (N.tail b) v) [ inl e ↦ k.2 e (sym k.0 ∙ i) ∙ ap d.label (sym e) | inr o ↦ H b m n o (sym k.0 ∙ i) ])
  ]

  rest_told : (mine : ℕ → Bool) (v : ℕ) (d : CoreState V) (o : Option ℕ) (t : Bool) → HasTold A N mine 0 d → HasTold A N mine 0 (rest_here A N v d o t)
  rest_told mine v d None t H = H
  rest_told mine v d (Some e) false H = H
  rest_told mine v d (Some e) true H = H

  settle_told : Lawful A → (mine : ℕ → Bool) (v : ℕ) (d : CoreState V) → HasTold A N mine v d → HasTold A N mine 0 (settle_here A N v d)
  settle_told L mine v d H = rest_told mine v (pump A N v d) (d.engager v) (out_idle A N v (pump A N v d)) (pump_told L mine v d H)

  -- kept by every item, of whatever state: it may be the part's own invariant
  pub taken_told : Lawful A → WellFormed N → (mine : ℕ → Bool) (i : Item V) (d : CoreState V) → HasTold A N mine 0 d → HasTold A N mine 0 (taken A N i d)
  taken_told L W mine (MessageOn a x) d H = settle_told L mine (N.head a) (arrive_here A N a x d) (arrive_told mine a x d H)
  taken_told L W mine (SignalOn a) d H = go a refl
    where
      go : (k : ℕ) → a ≡ k → HasTold A N mine 0 (settle_tail_here A N k (N.tail a) (freed A N a d))
      go zero e = subst (λ z. HasTold A N mine z (freed A N a d)) (ap N.tail e ∙ W.tail_zero) (freed_told mine a d H)
      go (suc k) e = settle_told L mine (N.tail a) (freed A N a d) (freed_told mine a d H)

  -- a message that does not improve: no arc is due, so the pump does nothing
  pub quiet_message : Lawful A → (mine : ℕ → Bool) (a : ℕ) (x : V) (d : CoreState V) → mine (N.head a) ≡ true → N.head a ≢ 0 → HasTold A N mine 0 d
      → better_of A x (d.label (N.head a)) ≡ d.label (N.head a) →
      (b : ℕ) → is_due A N (N.head a) (arrive_here A N a x d) b ≡ false
  quiet_message L mine a x d m n H same b = told_not_due A N L (N.head a) (arrive_here A N a x d) b
      (λ e i. H b (ap mine e ∙ m) (λ z. n (sym e ∙ z)) (λ z. n (sym e ∙ z)) i ∙ ap d.label e ∙ sym same ∙ sym (put-same d.label (N.head a) (better_of A x (d.label (N.head a)))))

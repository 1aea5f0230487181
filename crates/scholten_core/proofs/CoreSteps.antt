-- The events of a running core.
use Rattle.std.proofs.Common.{◌≡◌, ◌≢◌, ℕ, zero, suc, ◌+◌, ◌<◌, ◌≤◌, Bool, true, false, cond, Some, List, [], ◌∷◌, ◌++◌, length, get_or, take, length-take, refl, sym, ap, ◌∙◌, subst, inl, inr, arith}
use Rattle.scholten_core.proofs.Words.{cases_eq, Algebra, IsLawful, Idle, Message, Held, Signal, Event, Deliver, Accept, Network, WellFormed, CoreState, arrive, pump, rest, settle, step, run_from, state_after, opening, delivered, accepted, settle_tail, freed, count_enabled, is_enabled, IdleIsTold, CoreView, state_of, network_of, IsRun, network_in, IsDiffusion, well_formed}
use Rattle.std.proofs.lemmas.List.{take_more}
use Rattle.scholten_core.proofs.StepCases.{held_pumped}
use Rattle.scholten_core.proofs.CoreInvariant.{CoreInvariant, head_real, arrive_kept, freed_kept}
use Rattle.scholten_core.proofs.Ended.{reached_kept}

module _ {V : Type 0} (A : Algebra V) (N : Network) where
  pub run_from-push : (c : CoreState V) (es : List Event) (e : Event) → run_from A N c (es ++ e ∷ []) ≡ step A N (run_from A N c es) e
  run_from-push c [] e = refl
  run_from-push c (d ∷ es) e = run_from-push (step A N c d) es e

  pub count-push : (c : CoreState V) (es : List Event) (e : Event) → count_enabled A N c (es ++ e ∷ []) ≡ count_enabled A N c es + cond (is_enabled (run_from A N c es) e) 1 0
  count-push c [] e = omega arith
  count-push c (d ∷ es) e = let h = count-push (step A N c d) es e in omega (arith, h)

  pub count_at_most : (c : CoreState V) (es : List Event) → count_enabled A N c es ≤ length es
  count_at_most c [] = omega arith
  count_at_most c (e ∷ es) = go (is_enabled c e) (count_at_most (step A N c e) es)
    where
      go : (b : Bool) → count_enabled A N (step A N c e) es ≤ length es → cond b 1 0 + count_enabled A N (step A N c e) es ≤ length (e ∷ es)
      go true h = omega arith
      go false h = omega arith

  pub settle_tail_at : (a v : ℕ) (c : CoreState V) → 1 ≤ a → settle A N v c ≡ settle_tail A N a v c
  settle_tail_at zero v c l = absurd (omega (arith, l))
  settle_tail_at (suc a) v c l = refl

-- a loop over the events, after k of them
pub record IsRunTo {S V : Type 0} (meaning : S → Algebra V) (old new : CoreView S V) (events : List Event) (k n : ℕ) : Type 0 where
  pub same : new.diffusion ≡ old.diffusion
  pub state : state_of new ≡ run_from (meaning old.diffusion.algebra) (network_of old) (state_of old) (take k events)
  pub count : n ≡ count_enabled (meaning old.diffusion.algebra) (network_of old) (state_of old) (take k events)

module _ {S V : Type 0} (meaning : S → Algebra V) where
  pub kept_at : (t : CoreView S V) → IsLawful (meaning t.diffusion.algebra) → IsRun meaning t → CoreInvariant (meaning t.diffusion.algebra) (network_of t) 0 (state_of t)
  kept_at t L R = subst (λ c. CoreInvariant (meaning t.diffusion.algebra) (network_of t) 0 c) (sym R.reached.1)
      (reached_kept (meaning t.diffusion.algebra) (network_of t) L (well_formed t.diffusion.roads t.diffusion.source R.diffusion.roads R.diffusion.source.0) R.reached.0)

  formed_at : (t : CoreView S V) → IsRun meaning t → WellFormed (network_of t)
  formed_at t R = well_formed t.diffusion.roads t.diffusion.source R.diffusion.roads R.diffusion.source.0

  pub told_at : (t : CoreView S V) → IsLawful (meaning t.diffusion.algebra) → IsRun meaning t → IdleIsTold (network_of t) (state_of t)
  told_at t L R b n i = (kept_at t L R).idle_told b n n i

  pub reached_step : (old new : CoreView S V) (e : Event) → IsRun meaning old → new.diffusion ≡ old.diffusion →
      state_of new ≡ step (meaning old.diffusion.algebra) (network_of old) (state_of old) e → IsRun meaning new
  reached_step old new e R s q = record {
    diffusion = subst IsDiffusion (sym s) R.diffusion;
    reached = (
      R.reached.0 ++ e ∷ [],
      q ∙ ap (λ c. step (meaning old.diffusion.algebra) (network_of old) c e) R.reached.1
          ∙ sym (run_from-push (meaning old.diffusion.algebra) (network_of old) (opening (meaning old.diffusion.algebra) (network_of old)) R.reached.0 e)
          ∙ (λ i. state_after (meaning (sym s i).algebra) (network_in (sym s i)) (R.reached.0 ++ e ∷ [])),
    );
  }

  -- what carries something is one of the arcs
  pub busy_in : (t : CoreView S V) (a : ℕ) → IsLawful (meaning t.diffusion.algebra) → IsRun meaning t → (state_of t).token a ≢ Idle → a ≤ length t.diffusion.roads.arcs
  busy_in t a L R n = elim (cases_eq a 0) [
    | inl e ↦ omega arith
    | inr nz ↦ (formed_at t R).real a (λ z. let K = kept_at t L R in n (K.neutral_idle a nz (ap (state_of t).engager z ∙ K.env_neutral)))
  ]

  pub busy_head : (t : CoreView S V) (a v : ℕ) → IsLawful (meaning t.diffusion.algebra) → IsRun meaning t → (state_of t).token a ≢ Idle → v ≡ (network_of t).head a → 1 ≤ v
  busy_head t a v L R n e = let h = head_real (meaning t.diffusion.algebra) (network_of t) (formed_at t R) 0 a (state_of t) (kept_at t L R) n in omega arith

  -- and the tail of a busy arc of the graph is a vertex
  pub busy_tail : (t : CoreView S V) (a v : ℕ) → IsLawful (meaning t.diffusion.algebra) → IsRun meaning t → (state_of t).token a ≢ Idle → a ≢ 0 → v ≡ (network_of t).tail a → 1 ≤ v
  busy_tail t a v L R n nz e =
      let K = kept_at t L R in
      let h : (network_of t).tail a ≢ 0 = λ z. n (K.neutral_idle a nz (ap (state_of t).engager z ∙ K.env_neutral)) in omega (arith, h, e)

  -- after a message was taken, the engager of its head is held
  pub arrived_held : (old mid : CoreView S V) (a v : ℕ) (x : V) → IsLawful (meaning old.diffusion.algebra) → IsRun meaning old → Message x ≡ (state_of old).token a → v ≡ (network_of old).head a →
      state_of mid ≡ pump (meaning old.diffusion.algebra) (network_of old) v (arrive (meaning old.diffusion.algebra) (network_of old) a x (state_of old)) →
      (e : ℕ) → (state_of mid).engager v ≡ Some e → (state_of mid).token e ≡ Held
  arrived_held old mid a v x L R q h p e en =
      let A = meaning old.diffusion.algebra in
      let N = network_of old in
      let K = arrive_kept (meaning old.diffusion.algebra) (network_of old) L (formed_at old R) a x (state_of old) (sym q) (kept_at old L R) in
      ap (λ c. c.token e) p ∙ held_pumped (meaning old.diffusion.algebra) (network_of old) L v (arrive (meaning old.diffusion.algebra) (network_of old) a x (state_of old)) e
      (K.engager_held v e (ap (λ c. c.engager v) (sym p) ∙ en)).0

  pub freed_held : (old mid : CoreView S V) (a v : ℕ) → IsLawful (meaning old.diffusion.algebra) → IsRun meaning old → Signal ≡ (state_of old).token a →
      state_of mid ≡ pump (meaning old.diffusion.algebra) (network_of old) v (freed (meaning old.diffusion.algebra) (network_of old) a (state_of old)) →
      (e : ℕ) → (state_of mid).engager v ≡ Some e → (state_of mid).token e ≡ Held
  freed_held old mid a v L R q p e en =
      let K = freed_kept (meaning old.diffusion.algebra) (network_of old) (formed_at old R) a (state_of old) (sym q) (kept_at old L R) in
      ap (λ c. c.token e) p ∙ held_pumped (meaning old.diffusion.algebra) (network_of old) L v (freed (meaning old.diffusion.algebra) (network_of old) a (state_of old)) e
      (K.engager_held v e (ap (λ c. c.engager v) (sym p) ∙ en)).0

  pub deliver_leaves : (old mid new : CoreView S V) (a v : ℕ) (x : V) → mid.diffusion ≡ old.diffusion → Message x ≡ (state_of old).token a → v ≡ (network_of old).head a →
      state_of mid ≡ pump (meaning old.diffusion.algebra) (network_of old) v (arrive (meaning old.diffusion.algebra) (network_of old) a x (state_of old)) →
      state_of new ≡ rest (meaning mid.diffusion.algebra) (network_of mid) v (state_of mid) →
      state_of new ≡ step (meaning old.diffusion.algebra) (network_of old) (state_of old) (Deliver a)
  deliver_leaves old mid new a v x s t h p q =
      q ∙ (λ i. rest (meaning (s i).algebra) (network_in (s i)) v (p i))
      ∙ ap (λ u. settle (meaning old.diffusion.algebra) (network_of old) u (arrive (meaning old.diffusion.algebra) (network_of old) a x (state_of old))) h
      ∙ ap (delivered (meaning old.diffusion.algebra) (network_of old) a (state_of old)) t

  pub accept_entry_leaves : (old new : CoreView S V) (a : ℕ) → Signal ≡ (state_of old).token a → a ≡ 0 →
      state_of new ≡ freed (meaning old.diffusion.algebra) (network_of old) a (state_of old) →
      state_of new ≡ step (meaning old.diffusion.algebra) (network_of old) (state_of old) (Accept a)
  accept_entry_leaves old new a t z p =
      p ∙ ap (λ b. settle_tail (meaning old.diffusion.algebra) (network_of old) b ((network_of old).tail a) (freed (meaning old.diffusion.algebra) (network_of old) a (state_of old))) (sym z)
      ∙ ap (accepted (meaning old.diffusion.algebra) (network_of old) a (state_of old)) t

  pub accept_leaves : (old mid new : CoreView S V) (a v : ℕ) → mid.diffusion ≡ old.diffusion → Signal ≡ (state_of old).token a → 1 ≤ a → v ≡ (network_of old).tail a →
      state_of mid ≡ pump (meaning old.diffusion.algebra) (network_of old) v (freed (meaning old.diffusion.algebra) (network_of old) a (state_of old)) →
      state_of new ≡ rest (meaning mid.diffusion.algebra) (network_of mid) v (state_of mid) →
      state_of new ≡ step (meaning old.diffusion.algebra) (network_of old) (state_of old) (Accept a)
  accept_leaves old mid new a v s t l h p q =
      q ∙ (λ i. rest (meaning (s i).algebra) (network_in (s i)) v (p i))
      ∙ ap (λ u. settle (meaning old.diffusion.algebra) (network_of old) u (freed (meaning old.diffusion.algebra) (network_of old) a (state_of old))) h
      ∙ settle_tail_at (meaning old.diffusion.algebra) (network_of old) a ((network_of old).tail a) (freed (meaning old.diffusion.algebra) (network_of old) a (state_of old)) l
      ∙ ap (accepted (meaning old.diffusion.algebra) (network_of old) a (state_of old)) t

  pub run_more : (old mid new : CoreView S V) (events : List Event) (k n m : ℕ) (e : Event) (b : Bool) → k < length events → e ≡ get_or events k e → IsRunTo meaning old mid events k n →
      new.diffusion ≡ mid.diffusion → state_of new ≡ step (meaning mid.diffusion.algebra) (network_of mid) (state_of mid) e → b ≡ is_enabled (state_of mid) e → m ≡ n + cond b 1 0 →
      IsRunTo meaning old new events (k + 1) m
  run_more old mid new events k n m e b l at R s q en c =
      let t : take (k + 1) events ≡ take k events ++ e ∷ [] = take_more events k e l ∙ ap (λ x. take k events ++ x ∷ []) (sym at) in
      let A = meaning old.diffusion.algebra in
      let N = network_of old in
      record {
        same = s ∙ R.same;
        state = q ∙ (λ i. step (meaning (R.same i).algebra) (network_in (R.same i)) (R.state i) e) ∙ sym (run_from-push A N (state_of old) (take k events) e)
            ∙ ap (run_from A N (state_of old)) (sym t);
        count = c ∙ (λ i. R.count i + cond ((en ∙ ap (λ d. is_enabled d e) R.state) i) 1 0) ∙ sym (count-push A N (state_of old) (take k events) e) ∙ ap (count_enabled A N (state_of old)) (sym t);
      }

  pub run_bound : (old new : CoreView S V) (events : List Event) (k n : ℕ) → IsRunTo meaning old new events k n → n ≤ k
  run_bound old new events k n R =
      let h = count_at_most (meaning old.diffusion.algebra) (network_of old) (state_of old) (take k events) in
      let c = R.count in omega (arith, length-take k events)

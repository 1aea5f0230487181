-- Where nothing has to be sent, nothing has to be looked at.
use Rattle.scholten_core.proofs.Words.{◌≡◌, ◌≢◌, ℕ, zero, suc, ◌+◌, Bool, true, false, cond, not, ◌&&◌, ◌||◌, eqb, Option, Some, None, List, [], ◌∷◌, ◌++◌, refl, sym, ap, ◌∙◌, subst, inl, inr, arith, ne_eqb, Contains, cases_eq, cond-false, false≢true, and_right, Idle, Algebra, IsLawful, Network, CoreState, put, is_idle, is_due, all_below, out_idle, arrive, pump, pump_one, freed, same_label, sent, extend_label, better_of, answer_to, one_if, IdleIsTold, item_of, pump_made, IsDistinct, put_tells, put-same, put-other, due_tells, same_self, not_in_empty, here, later, head_or_tail}
use Rattle.scholten_core.specs.Deficit.{busy_out}

module _ {V : Type 0} (A : Algebra V) (N : Network) where
  due_differs : (v : ℕ) (d : CoreState V) (b : ℕ) → is_due A N v d b ≡ true → same_label A (d.told b) (d.label v) ≡ true → ⊥
  unfolding is_due
  due_differs v d b t s =
      let u : eqb (N.tail b) v && is_idle (d.token b) && not (same_label A (d.told b) (d.label v)) ≡ true = t in
      false≢true (sym (and_right (eqb (N.tail b) v && is_idle (d.token b)) (not (same_label A (d.told b) (d.label v))) (ap not s)) ∙ u)

  pub told_not_due : IsLawful A → (v : ℕ) (d : CoreState V) (b : ℕ) → (N.tail b ≡ v → d.token b ≡ Idle → d.told b ≡ d.label v) → is_due A N v d b ≡ false
  told_not_due L v d b h = elim (due_tells A N L v d b) [
    | inr k ↦ k.0
    | inl k ↦ absurd (due_differs v d b k.0 (ap (λ o. same_label A o (d.label v)) (h k.1 k.2) ∙ same_self A N L (d.label v)))
  ]

  -- on an idle arc out of a vertex its tail's label was offered; the vertex e has still to pump
  abbrev pub HasTold : (ℕ → Bool) → ℕ → CoreState V → Type 0
  HasTold mine e d = (b : ℕ) → mine (N.tail b) ≡ true → N.tail b ≢ 0 → N.tail b ≢ e → d.token b ≡ Idle → d.told b ≡ d.label (N.tail b)

  -- after a message that does not improve no arc is due
  pub quiet_arrival : IsLawful A → (a : ℕ) (x : V) (c : CoreState V) → N.head a ≢ 0 → c.token a ≢ Idle → IdleIsTold N c → better_of A x (c.label (N.head a)) ≡ c.label (N.head a) →
      (b : ℕ) → is_due A N (N.head a) (arrive A N a x c) b ≡ false
  quiet_arrival L a x c n busy H same b = told_not_due L (N.head a) (arrive A N a x c) b (λ e i.
      let back : c.token b ≡ Idle = elim (put_tells c.token a (answer_to (c.engager (N.head a))) b) [
        | inl k ↦ absurd (answered (c.engager (N.head a)) (sym k.1 ∙ i))
        | inr k ↦ sym k.1 ∙ i
      ] in
      H b (λ z. n (sym e ∙ z)) back ∙ ap c.label e ∙ sym same ∙ sym (put-same c.label (N.head a) (better_of A x (c.label (N.head a)))))
    where
      answered : (o : Option ℕ) → answer_to {V = V} o ≡ Idle → ⊥
      answered None h = cc
      answered (Some e) h = cc

  -- after a signal its own arc alone may be due
  pub quiet_acceptance : IsLawful A → (a : ℕ) (c : CoreState V) → N.tail a ≢ 0 → IdleIsTold N c → (b : ℕ) → b ≢ a → is_due A N (N.tail a) (freed A N a c) b ≡ false
  quiet_acceptance L a c n H b ne = told_not_due L (N.tail a) (freed A N a c) b
      (λ e i. H b (λ z. n (sym e ∙ z)) (sym (put-other c.token a Idle b ne) ∙ i) ∙ ap c.label e)

  -- the same for one shard's vertices
  pub quiet_signal : IsLawful A → (mine : ℕ → Bool) (a : ℕ) (d : CoreState V) → mine (N.tail a) ≡ true → N.tail a ≢ 0 → HasTold mine 0 d →
      (b : ℕ) → b ≢ a → is_due A N (N.tail a) (freed A N a d) b ≡ false
  quiet_signal L mine a d m n H b ne = told_not_due L (N.tail a) (freed A N a d) b
      (λ e i. H b (ap mine e ∙ m) (λ z. n (sym e ∙ z)) (λ z. n (sym e ∙ z)) (sym (put-other d.token a Idle b ne) ∙ i) ∙ ap d.label e)

  pub pump_nothing : (v : ℕ) (d : CoreState V) → ((b : ℕ) → is_due A N v d b ≡ false) → pump A N v d ≡ d
  pump_nothing v d h = λ i. record {
    label = d.label;
    engager = d.engager;
    token = λ b. cond-false (is_due A N v d b) (sent (extend_label A (d.label v) (N.weight b))) (d.token b) (h b) i;
    told = λ b. cond-false (is_due A N v d b) (d.label v) (d.told b) (h b) i;
  }

  pub made_nothing : (v : ℕ) (d : CoreState V) (xs : List ℕ) → ((b : ℕ) → Contains xs b → is_due A N v d b ≡ false) → pump_made A N v d xs ≡ []
  made_nothing v d [] h = refl
  made_nothing v d (b ∷ xs) h = λ i. cond-false (is_due A N v d b) (item_of b (sent (extend_label A (d.label v) (N.weight b)))) [] (h b (here b xs)) i
      ++ made_nothing v d xs (λ u l. h u (later b u xs l)) i

  put-itself : {X : Type 0} (f g : ℕ → X) (a : ℕ) → ((b : ℕ) → b ≢ a → g b ≡ f b) → g ≡ put f a (g a)
  put-itself f g a h = λ i b. (elim (put_tells f a (g a) b) as (λ _. g b ≡ put f a (g a) b) [ inl k ↦ ap g k.0 ∙ sym k.1 | inr k ↦ h b k.0 ∙ sym k.1 ]) i

  pub pump_alone : (v a : ℕ) (d : CoreState V) → ((b : ℕ) → b ≢ a → is_due A N v d b ≡ false) → pump A N v d ≡ pump_one A N v a d
  pump_alone v a d h = λ i. record {
    label = d.label;
    engager = d.engager;
    token = put-itself d.token (pump A N v d).token a (λ b n. cond-false (is_due A N v d b) (sent (extend_label A (d.label v) (N.weight b))) (d.token b) (h b n)) i;
    told = put-itself d.told (pump A N v d).told a (λ b n. cond-false (is_due A N v d b) (d.label v) (d.told b) (h b n)) i;
  }

  pub made_alone : (v a : ℕ) (d : CoreState V) (xs : List ℕ) → IsDistinct A N xs → Contains xs a → ((b : ℕ) → b ≢ a → is_due A N v d b ≡ false) → pump_made A N v d xs ≡ pump_made A N v d (a ∷ [])
  made_alone v a d [] D l h = absurd (not_in_empty a l)
  made_alone v a d (u ∷ us) D l h = elim (cases_eq u a) [
    | inl e ↦ (let none = made_nothing v d us (λ b k. h b (λ q. D.0 (subst (λ w. Contains us w) (q ∙ sym e) k))) in
        ap (λ zs. cond (is_due A N v d u) (item_of u (sent (extend_label A (d.label v) (N.weight u)))) [] ++ zs) none ∙ ap (λ w. pump_made A N v d (w ∷ [])) e)
    | inr n ↦ (let k : Contains us a = elim (head_or_tail u a us l) [ inl e ↦ absurd (n e) | inr k ↦ k ] in
        (λ i. cond-false (is_due A N v d u) (item_of u (sent (extend_label A (d.label v) (N.weight u)))) [] (h u n) i ++ pump_made A N v d us) ∙ made_alone v a d us D.1 k h)
  ]

  all_or_busy : (v : ℕ) (d : CoreState V) (n : ℕ) → all_below (λ b. not (eqb (N.tail b) v) || is_idle (d.token b)) n ≡ eqb (busy_out N v d n) 0
  all_or_busy v d zero = refl
  all_or_busy v d (suc n) = go (eqb (N.tail n) v) (is_idle (d.token n)) (busy_out N v d n) (all_or_busy v d n)
    where
      plus : (k : ℕ) → eqb k 0 ≡ eqb (0 + k) 0
      plus k = ap (λ n. eqb n 0) (let z : k ≡ 0 + k = omega arith in z)

      go : (s t : Bool) (k : ℕ) {u : Bool} → u ≡ eqb k 0 → ((not s || t) && u) ≡ eqb (one_if (s && not t) + k) 0
      go true true k e = e ∙ plus k
      go true false k e = sym (ne_eqb (1 + k) 0 (λ z. omega (arith, z)))
      go false true k e = e ∙ plus k
      go false false k e = e ∙ plus k

  -- the counter decides the rest
  pub out_idle_counted : (v : ℕ) (d : CoreState V) → out_idle A N v d ≡ eqb (busy_out N v d (suc N.arcs)) 0
  unfolding out_idle
  out_idle_counted v d = all_or_busy v d (suc N.arcs)

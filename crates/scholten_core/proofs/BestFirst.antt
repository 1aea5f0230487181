-- If events take the best waiting message first, no label changes twice, and each arc out of a
-- labelled vertex is sent one message, if its extension is not refused.
use Rattle.scholten_core.proofs.Words.{◌≡◌, ◌≢◌, ℕ, suc, ◌+◌, Bool, true, false, not, ◌&&◌, is_some, eqb-true, Option, Some, None, List, [], ◌∷◌, ◌⊎◌, refl, sym, ap, ◌∙◌, subst, inl, inr, arith, cases_Bool, cond-true, cond-false, false≢true, and_parts, not-true, Algebra, IsLawful, same_no_worse, Token, Idle, Message, Held, Signal, Event, Network, WellFormed, one_if, sent_on, CoreState, opening, state_after, run_from, improves, better_of, same_label, is_message, is_due, out_idle, pump, arrive, released, freed, settle, step, sent, extend_label, answer_to, put_tells, sent_message, same_self, walk_value_is_value}
use Rattle.scholten_core.specs.BestFirst.{IsNoWorseThanWaiting, TakesBest, IsBestFirst}
use Rattle.scholten_core.proofs.CoreInvariant.{CoreInvariant, pumped, head_real, arrive_kept, freed_kept, step_kept}
use Rattle.scholten_core.proofs.StepCases.{step_cases, released_changes, held_pumped, rest_told, rest_label}
use Rattle.scholten_core.proofs.Ended.{opening_kept}

module _ {V : Type 0} (A : Algebra V) (N : Network) where
  -- each label is no worse than the messages that would improve; each arc was offered the label of
  -- its tail, and none was sent anything from a vertex without a label
  pub record LabelsLead (c : CoreState V) : Type 0 where
    pub lead : (v : ℕ) (z : V) → c.label v ≡ Some z → IsNoWorseThanWaiting A N c z
    pub told : (b : ℕ) → c.told b ≡ c.label (N.tail b)
    pub idle : (b : ℕ) → N.tail b ≢ 0 → c.label (N.tail b) ≡ None → c.token b ≡ Idle

  -- the labels and what was offered are the same, and no message is new
  record IsStill (c d : CoreState V) : Type 0 where
    label : (v : ℕ) → d.label v ≡ c.label v
    told : (b : ℕ) → d.told b ≡ c.told b
    message : (b : ℕ) (y : V) → d.token b ≡ Message y → c.token b ≡ Message y
    idle : (b : ℕ) → c.token b ≡ Idle → d.token b ≡ Idle

  still_refl : (c : CoreState V) → IsStill c c
  still_refl c = record { label = λ v. refl; told = λ b. refl; message = λ b y q. q; idle = λ b q. q }

  still_then : (c d e : CoreState V) → IsStill c d → IsStill d e → IsStill c e
  still_then c d e S T = record {
    label = λ v. T.label v ∙ S.label v;
    told = λ b. T.told b ∙ S.told b;
    message = λ b y q. S.message b y (T.message b y q);
    idle = λ b q. T.idle b (S.idle b q);
  }

  still_leads : (c d : CoreState V) → IsStill c d → LabelsLead c → LabelsLead d
  still_leads c d S K = record {
    lead = λ v z e b y q i. K.lead v z (sym (S.label v) ∙ e) b y (S.message b y q) (ap (improves A y) (sym (S.label (N.head b))) ∙ i);
    told = λ b. S.told b ∙ K.told b ∙ sym (S.label (N.tail b));
    idle = λ b n e. S.idle b (K.idle b n (sym (S.label (N.tail b)) ∙ e));
  }

  -- a vertex whose arcs were all offered its label sends nothing
  not_due : IsLawful A → (v : ℕ) (d : CoreState V) (b : ℕ) → (N.tail b ≡ v → d.told b ≡ d.label v) → is_due A N v d b ≡ false
  unfolding is_due
  not_due L v d b h = elim (cases_Bool (is_due A N v d b)) [
    | inr f ↦ f
    | inl t ↦ absurd (
        let k = and_parts _ _ t in let e = and_parts _ _ k.0 in
        let same : same_label A (d.told b) (d.label v) ≡ true = subst (λ o. same_label A o (d.label v) ≡ true) (sym (h (eqb-true (N.tail b) v e.0))) (same_self A N L (d.label v)) in
        false≢true (sym (not-true _ k.1) ∙ same))
  ]

  pump_still : IsLawful A → (v : ℕ) (d : CoreState V) → ((b : ℕ) → N.tail b ≡ v → d.told b ≡ d.label v) → IsStill d (pump A N v d)
  pump_still L v d h = record {
    label = λ u. refl;
    told = λ b. cond-false _ _ _ (not_due L v d b (h b));
    message = λ b y q. sym (cond-false _ _ _ (not_due L v d b (h b))) ∙ q;
    idle = λ b q. cond-false _ _ _ (not_due L v d b (h b)) ∙ q;
  }

  rest_still : (v : ℕ) (p : CoreState V) (o : Option ℕ) (t : Bool) → ((e : ℕ) → o ≡ Some e → p.token e ≡ Held) → IsStill p (released A N v p o t)
  rest_still v p o t h = record {
    label = λ u. ap (λ f. f u) (rest_label A N v p o t);
    told = λ b. ap (λ f. f b) (rest_told A N v p o t);
    message = λ b y q. elim (released_changes A N v p o t b h) [ inl k ↦ sym k ∙ q | inr k ↦ absurd (let g = k.1 in cc) ];
    idle = λ b q. elim (released_changes A N v p o t b h) [ inl k ↦ k ∙ q | inr k ↦ absurd (let g = k.0 in cc) ];
  }

  settle_still : IsLawful A → (v : ℕ) (d : CoreState V) → ((b : ℕ) → N.tail b ≡ v → d.told b ≡ d.label v) → ((e : ℕ) → d.engager v ≡ Some e → d.token e ≡ Held) → IsStill d (settle A N v d)
  settle_still L v d h k = still_then d (pump A N v d) (settle A N v d) (pump_still L v d h)
      (rest_still v (pump A N v d) (d.engager v) (out_idle A N v (pump A N v d)) (λ e r. held_pumped A N L v d e (k e r)))

  no_answer : (o : Option ℕ) (y : V) → answer_to o ≡ Message y → ⊥
  no_answer None y q = cc
  no_answer (Some e) y q = cc

  not_improved : (x z : V) → A.no_worse z x ≡ true → improves A x (Some z) ≡ true → ⊥
  not_improved x z h i = false≢true (sym (not-true (A.no_worse z x) (and_parts (A.no_worse x z) (not (A.no_worse z x)) i).1) ∙ h)

  -- a message that improves nothing
  stale_still : IsLawful A → WellFormed N → (a : ℕ) (x : V) (c : CoreState V) → c.token a ≡ Message x → CoreInvariant A N 0 c → LabelsLead c → improves A x (c.label (N.head a)) ≡ false → IsStill c (settle A N (N.head a) (arrive A N a x c))
  stale_still L W a x c q K T f =
      let d = arrive A N a x c in
      let old : IsStill c d = record {
        label = λ u. elim (put_tells c.label (N.head a) (better_of A x (c.label (N.head a))) u) [
          | inl h ↦ h.1 ∙ cond-false _ (Some x) (c.label (N.head a)) f ∙ ap c.label (sym h.0)
          | inr h ↦ h.1
        ];
        told = λ b. refl;
        message = λ b y r. elim (put_tells c.token a (answer_to (c.engager (N.head a))) b) [
          | inl h ↦ absurd (no_answer (c.engager (N.head a)) y (sym h.1 ∙ r))
          | inr h ↦ sym h.1 ∙ r
        ];
        idle = λ b r. elim (put_tells c.token a (answer_to (c.engager (N.head a))) b) [
          | inl h ↦ absurd (let g : Idle ≡ Message x = sym r ∙ ap c.token h.0 ∙ q in cc)
          | inr h ↦ h.1 ∙ r
        ];
      } in
      still_then c d (settle A N (N.head a) d) old (settle_still L (N.head a) d
      (λ b e. T.told b ∙ ap c.label e ∙ sym (old.label (N.head a)))
      (λ e r. ((arrive_kept A N L W a x c q K).engager_held (N.head a) e r).0))

  -- the messages that an arc was sent: one if it was offered a label that extends along it
  abbrev sent_by : CoreState V → ℕ → ℕ
  sent_by c b = one_if (is_some (extend_label A (c.told b) (N.weight b)))

  -- what a step sends on each arc makes up the difference
  abbrev SendsOffers : CoreState V → CoreState V → Type 0
  SendsOffers c d = (b : ℕ) → one_if (is_message (d.token b) && not (is_message (c.token b))) + sent_by c b ≡ sent_by d b

  none_new : (t u : Token V) → ((y : V) → u ≡ Message y → t ≡ Message y) → one_if (is_message u && not (is_message t)) ≡ 0
  none_new t Idle h = refl
  none_new t (Message y) h = ap (λ s. one_if (not (is_message s))) (h y refl)
  none_new t Held h = refl
  none_new t Signal h = refl

  still_offers : (c d : CoreState V) → IsStill c d → SendsOffers c d
  still_offers c d S b =
      let z = none_new (c.token b) (d.token b) (λ y q. S.message b y q) in
      let f : sent_by c b ≡ sent_by d b = ap (λ o. one_if (is_some (extend_label A o (N.weight b)))) (sym (S.told b)) in
      omega (arith, z, f)

  -- a message that improves the label of its head
  module _ (L : IsLawful A) (W : WellFormed N) (a : ℕ) (x : V) (c : CoreState V) (q : c.token a ≡ Message x) (K : CoreInvariant A N 0 c) (T : LabelsLead c) (i : improves A x (c.label (N.head a)) ≡ true)
      (E : IsNoWorseThanWaiting A N c x) where
    abbrev met : CoreState V
    met = arrive A N a x c

    abbrev offered : CoreState V
    offered = pump A N (N.head a) met

    real : N.head a ≢ 0
    real = head_real A N W 0 a c K (λ z. cc)

    no_label : (o : Option V) → c.label (N.head a) ≡ o → c.label (N.head a) ≡ None
    no_label None e = e
    no_label (Some z) e = absurd (not_improved x z (T.lead (N.head a) z e a x q i) (ap (improves A x) (sym e) ∙ i))

    unlabelled : c.label (N.head a) ≡ None
    unlabelled = no_label (c.label (N.head a)) refl

    met_label : (u : ℕ) → ((u ≡ N.head a) × (met.label u ≡ Some x)) ⊎ ((u ≢ N.head a) × (met.label u ≡ c.label u))
    met_label u = elim (put_tells c.label (N.head a) (better_of A x (c.label (N.head a))) u) [
      | inl h ↦ inl (h.0, h.1 ∙ cond-true _ (Some x) (c.label (N.head a)) i)
      | inr h ↦ inr (h.0, h.1)
    ]

    met_head : met.label (N.head a) ≡ Some x
    met_head = elim (met_label (N.head a)) [ inl h ↦ h.1 | inr h ↦ absurd (h.0 refl) ]

    met_message : (b : ℕ) (y : V) → met.token b ≡ Message y → c.token b ≡ Message y
    met_message b y r = elim (put_tells c.token a (answer_to (c.engager (N.head a))) b) [
      | inl h ↦ absurd (no_answer (c.engager (N.head a)) y (sym h.1 ∙ r))
      | inr h ↦ sym h.1 ∙ r
    ]

    met_idle : (b : ℕ) → c.token b ≡ Idle → met.token b ≡ Idle
    met_idle b r = elim (put_tells c.token a (answer_to (c.engager (N.head a))) b) [
      | inl h ↦ absurd (let g : Idle ≡ Message x = sym r ∙ ap c.token h.0 ∙ q in cc)
      | inr h ↦ h.1 ∙ r
    ]

    -- an arc out of the head was sent nothing before
    out_idle_before : (b : ℕ) → N.tail b ≡ N.head a → c.token b ≡ Idle
    out_idle_before b e = T.idle b (λ z. real (sym e ∙ z)) (ap c.label e ∙ unlabelled)

    -- each label is no worse than the message
    leads_message : (u : ℕ) (z : V) → met.label u ≡ Some z → A.no_worse z x ≡ true
    leads_message u z e = elim (met_label u) [
      | inl h ↦ (let g : x ≡ z = cc in subst (λ w. A.no_worse w x ≡ true) g (same_no_worse A.no_worse L.ordered x))
      | inr h ↦ T.lead u z (sym h.1 ∙ e) a x q i
    ]

    -- nor than what extends it
    leads_extended : (u : ℕ) (z : V) (b : ℕ) (y : V) → met.label u ≡ Some z → N.tail b ≡ N.head a → (w : V) × (met.label (N.head a) ≡ Some w) × (A.extend w (N.weight b) ≡ Some y) → A.no_worse z y ≡ true
    leads_extended u z b y e t s =
        let g : x ≡ s.0 = (let h = sym met_head ∙ s.1 in cc) in
        let n : N.tail b ≢ 0 = λ k. real (sym t ∙ k) in
        L.ordered.transitive z x y (leads_message u z e)
        (L.never_better x (N.weight b) y (walk_value_is_value A N L W (N.head a) x (K.message_walk a x q)) (W.weighs b n) (ap (λ w. A.extend w (N.weight b)) g ∙ s.2))

    leads_waiting : (u : ℕ) (z : V) (b : ℕ) (y : V) → met.label u ≡ Some z → c.token b ≡ Message y → improves A y (met.label (N.head b)) ≡ true → A.no_worse z y ≡ true
    leads_waiting u z b y e t j =
        let before : improves A y (c.label (N.head b)) ≡ true = elim (met_label (N.head b)) [
          | inl h ↦ ap (improves A y) (ap c.label h.0 ∙ unlabelled)
          | inr h ↦ ap (improves A y) (sym h.1) ∙ j
        ] in
        elim (met_label u) [
          | inl h ↦ (let g : x ≡ z = (let k = sym h.1 ∙ e in cc) in subst (λ w. A.no_worse w y ≡ true) g (E b y t before))
          | inr h ↦ T.lead u z (sym h.1 ∙ e) b y t before
        ]

    offered_leads : LabelsLead offered
    offered_leads = record {
      lead = λ u z e b y m j. elim (pumped A N L (N.head a) met b) [
        | inl h ↦ leads_extended u z b y e h.0 (sent_message A N (met.label (N.head a)) (N.weight b) y (sym h.2 ∙ m))
        | inr h ↦ leads_waiting u z b y e (met_message b y (sym h.0 ∙ m)) j
      ];
      told = λ b. elim (pumped A N L (N.head a) met b) [
        | inl h ↦ h.3 ∙ ap met.label (sym h.0)
        | inr h ↦ elim (met_label (N.tail b)) [
          | inl k ↦ h.1 ∙ h.2 k.0 (met_idle b (out_idle_before b k.0)) ∙ ap met.label (sym k.0)
          | inr k ↦ h.1 ∙ T.told b ∙ sym k.1
        ]
      ];
      idle = λ b n e. elim (met_label (N.tail b)) [
        | inl k ↦ absurd (let g = sym k.1 ∙ e in cc)
        | inr k ↦ elim (pumped A N L (N.head a) met b) [
          | inl h ↦ absurd (k.0 h.0)
          | inr h ↦ h.0 ∙ met_idle b (T.idle b n (sym k.1 ∙ e))
        ]
      ];
    }

    sent_is : (o : Option V) → one_if (is_message (sent o)) ≡ one_if (is_some o)
    sent_is None = refl
    sent_is (Some y) = refl

    offered_offers : SendsOffers c offered
    offered_offers b = elim (pumped A N L (N.head a) met b) [
      | inl h ↦ (
          let t : c.token b ≡ Idle = out_idle_before b h.0 in
          let before : sent_by c b ≡ 0 = ap (λ o. one_if (is_some (extend_label A o (N.weight b)))) (T.told b ∙ ap c.label h.0 ∙ unlabelled) in
          let after : sent_by offered b ≡ one_if (is_some (extend_label A (met.label (N.head a)) (N.weight b))) = ap (λ o. one_if (is_some (extend_label A o (N.weight b)))) h.3 in
          let new : one_if (is_message (offered.token b) && not (is_message (c.token b))) ≡ one_if (is_some (extend_label A (met.label (N.head a)) (N.weight b))) =
          (λ k. one_if (is_message (h.2 k) && not (is_message (t k)))) ∙ one_and (is_message (sent (extend_label A (met.label (N.head a)) (N.weight b)))) ∙ sent_is (extend_label A (met.label (N.head a)) (N.weight b)) in
          omega (arith, before, after, new))
      | inr h ↦ (
          let z = none_new (c.token b) (offered.token b) (λ y m. met_message b y (sym h.0 ∙ m)) in
          let f : sent_by offered b ≡ sent_by c b = ap (λ o. one_if (is_some (extend_label A o (N.weight b)))) h.1 in
          omega (arith, z, f))
    ]
      where
        one_and : (t : Bool) → one_if (t && true) ≡ one_if t
        one_and true = refl
        one_and false = refl

    settled_still : IsStill offered (settle A N (N.head a) met)
    settled_still = rest_still (N.head a) offered (met.engager (N.head a)) (out_idle A N (N.head a) offered)
        (λ e r. held_pumped A N L (N.head a) met e ((arrive_kept A N L W a x c q K).engager_held (N.head a) e r).0)

    -- a message stays one while the head rests
    rest_messages : (b : ℕ) → is_message ((settle A N (N.head a) met).token b) ≡ is_message (offered.token b)
    rest_messages b = elim (released_changes A N (N.head a) offered (met.engager (N.head a)) (out_idle A N (N.head a) offered) b
        (λ e r. held_pumped A N L (N.head a) met e ((arrive_kept A N L W a x c q K).engager_held (N.head a) e r).0)) [
          | inl k ↦ ap is_message k
          | inr k ↦ ap is_message k.1 ∙ sym (ap is_message k.0)
        ]

    improved_leads : LabelsLead (settle A N (N.head a) met)
    improved_leads = still_leads offered (settle A N (N.head a) met) settled_still offered_leads

    improved_offers : SendsOffers c (settle A N (N.head a) met)
    improved_offers b =
        let o = offered_offers b in
        let m : one_if (is_message ((settle A N (N.head a) met).token b) && not (is_message (c.token b))) ≡ one_if (is_message (offered.token b) && not (is_message (c.token b))) =
        ap (λ t. one_if (t && not (is_message (c.token b)))) (rest_messages b) in
        let f : sent_by (settle A N (N.head a) met) b ≡ sent_by offered b = ap (λ u. one_if (is_some (extend_label A u (N.weight b)))) (settled_still.told b) in
        omega (arith, o, m, f)

  abbrev Leads : CoreState V → CoreState V → Type 0
  Leads c d = LabelsLead d × SendsOffers c d

  from_still : (c d : CoreState V) → LabelsLead c → IsStill c d → Leads c d
  from_still c d T S = (still_leads c d S T, still_offers c d S)

  freed_still : (a : ℕ) (c : CoreState V) → IsStill c (freed A N a c)
  freed_still a c = record {
    label = λ v. refl;
    told = λ b. refl;
    message = λ b y r. elim (put_tells c.token a Idle b) [ inl h ↦ absurd (let g = sym h.1 ∙ r in cc) | inr h ↦ sym h.1 ∙ r ];
    idle = λ b r. elim (put_tells c.token a Idle b) [ inl h ↦ h.1 | inr h ↦ h.1 ∙ r ];
  }

  step_leads : IsLawful A → WellFormed N → (c : CoreState V) (e : Event) → CoreInvariant A N 0 c → LabelsLead c → TakesBest A N c e → Leads c (step A N c e)
  step_leads L W c e K T B = step_cases A N (λ d. Leads c d) c e
      (from_still c c T (still_refl c))
      (λ a x is q. let best = subst (TakesBest A N c) is B in elim (cases_Bool (improves A x (c.label (N.head a)))) [
        | inl i ↦ (improved_leads L W a x c q K T i (best x q i), improved_offers L W a x c q K T i (best x q i))
        | inr f ↦ from_still c (settle A N (N.head a) (arrive A N a x c)) T (stale_still L W a x c q K T f)
      ])
      (λ q. from_still c (freed A N 0 c) T (freed_still 0 c))
      (λ k q. from_still c (settle A N (N.tail (suc k)) (freed A N (suc k) c)) T
      (still_then c (freed A N (suc k) c) (settle A N (N.tail (suc k)) (freed A N (suc k) c)) (freed_still (suc k) c)
      (settle_still L (N.tail (suc k)) (freed A N (suc k) c) (λ b e. T.told b ∙ ap c.label e)
      (λ e r. ((freed_kept A N W (suc k) c q K).engager_held (N.tail (suc k)) e r).0))))

  run_leads : IsLawful A → WellFormed N → (c : CoreState V) (es : List Event) → CoreInvariant A N 0 c → LabelsLead c → IsBestFirst A N c es →
      LabelsLead (run_from A N c es) × ((b : ℕ) → sent_on A N b c es + sent_by c b ≡ sent_by (run_from A N c es) b)
  run_leads L W c [] K T B = (T, λ b. (omega arith))
  run_leads L W c (e ∷ es) K T B =
      let s = step_leads L W c e K T B.0 in
      let r = run_leads L W (step A N c e) es (step_kept A N L W c e K) s.0 B.1 in
      (r.0, λ b. let x = s.1 b in let y = r.1 b in omega (arith, x, y))

  opening_leads : WellFormed N → LabelsLead (opening A N)
  opening_leads W = record {
    lead = λ v z e. absurd cc;
    told = λ b. refl;
    idle = λ b n e. elim (put_tells (λ _. Idle) 0 (Message A.origin) b) [ inl h ↦ absurd (n (ap N.tail h.0 ∙ W.tail_zero)) | inr h ↦ h.1 ];
  }

  -- an arc was sent one message if the label of its tail extends along it, and else none
  pub best_first_sends : IsLawful A → WellFormed N → (es : List Event) → IsBestFirst A N (opening A N) es → (b : ℕ) →
      sent_on A N b (opening A N) es ≡ one_if (is_some (extend_label A ((state_after A N es).label (N.tail b)) (N.weight b)))
  best_first_sends L W es B b =
      let r = run_leads L W (opening A N) es (opening_kept A N W) (opening_leads W) B in
      let s = r.1 b in
      let t : sent_by (state_after A N es) b ≡ one_if (is_some (extend_label A ((state_after A N es).label (N.tail b)) (N.weight b))) =
      ap (λ o. one_if (is_some (extend_label A o (N.weight b)))) (r.0.told b) in
      omega (arith, s, t)

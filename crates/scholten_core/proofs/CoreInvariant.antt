-- What every event keeps.
use Rattle.scholten_core.proofs.Words.{◌≡◌, ◌≢◌, ℕ, zero, suc, Bool, true, false, Option, Some, None, List, [], ◌∷◌, ◌⊎◌, refl, sym, ap, ◌∙◌, subst, inl, inr, arith, cases_eq, cond-true, cond-false, Token, Idle, Message, Held, Signal, Event, Deliver, Accept, Algebra, IsLawful, Network, WellFormed, IsValueAt, CoreState, settle, step, run_from, delivered, accepted, settle_tail, pump, arrive, rest, released, freed, is_due, out_idle, better_of, engaged_by, answer_to, sent, extend_label}
use Rattle.scholten_core.proofs.Walks.{AtMost, walk_value_more}
use Rattle.scholten_core.proofs.Basics.{put_tells, put-at, put-same, put-other, due_tells, sent_message, sent_held, better_tells, out_idle-at}

module _ {V : Type 0} (A : Algebra V) (N : Network) where
  -- what holds between events at e = 0, and while the vertex e has still to pump
  pub record CoreInvariant (e : ℕ) (c : CoreState V) : Type 0 where
    pub label_walk : (v : ℕ) (x : V) → c.label v ≡ Some x → IsValueAt A N v x
    pub message_walk : (b : ℕ) (x : V) → c.token b ≡ Message x → IsValueAt A N (N.head b) x
    pub entry_origin : (x : V) → c.token 0 ≡ Message x → x ≡ A.origin
    pub source_heard : (c.token 0 ≡ Message A.origin) ⊎ AtMost A N c.label N.source A.origin
    pub arc_heard : (b : ℕ) (x y : V) → N.tail b ≢ 0 → c.told b ≡ Some x → A.extend x (N.weight b) ≡ Some y → (c.token b ≡ Message y) ⊎ AtMost A N c.label (N.head b) y
    pub idle_told : (b : ℕ) → N.tail b ≢ 0 → N.tail b ≢ e → c.token b ≡ Idle → c.told b ≡ c.label (N.tail b)
    pub neutral_idle : (b : ℕ) → b ≢ 0 → c.engager (N.tail b) ≡ None → c.token b ≡ Idle
    pub env_neutral : c.engager 0 ≡ None
    pub engager_held : (v a : ℕ) → c.engager v ≡ Some a → (c.token a ≡ Held) × (N.head a ≡ v)
    pub held_engager : (a : ℕ) → c.token a ≡ Held → c.engager (N.head a) ≡ Some a

  pumped_token_due : (v : ℕ) (c : CoreState V) (b : ℕ) → is_due A N v c b ≡ true → (pump A N v c).token b ≡ sent (extend_label A (c.label v) (N.weight b))
  pumped_token_due v c b h = cond-true (is_due A N v c b) _ _ h

  pumped_token_not : (v : ℕ) (c : CoreState V) (b : ℕ) → is_due A N v c b ≡ false → (pump A N v c).token b ≡ c.token b
  pumped_token_not v c b h = cond-false (is_due A N v c b) _ _ h

  pumped_told_due : (v : ℕ) (c : CoreState V) (b : ℕ) → is_due A N v c b ≡ true → (pump A N v c).told b ≡ c.label v
  pumped_told_due v c b h = cond-true (is_due A N v c b) _ _ h

  pumped_told_not : (v : ℕ) (c : CoreState V) (b : ℕ) → is_due A N v c b ≡ false → (pump A N v c).told b ≡ c.told b
  pumped_told_not v c b h = cond-false (is_due A N v c b) _ _ h

  -- a step on one arc: as it was, or as pumping makes it
  pub pumped : IsLawful A → (v : ℕ) (c : CoreState V) (b : ℕ) →
      ((N.tail b ≡ v) × (c.token b ≡ Idle) × ((pump A N v c).token b ≡ sent (extend_label A (c.label v) (N.weight b))) × ((pump A N v c).told b ≡ c.label v))
      ⊎ (((pump A N v c).token b ≡ c.token b) × ((pump A N v c).told b ≡ c.told b) × (N.tail b ≡ v → c.token b ≡ Idle → c.told b ≡ c.label v))
  pumped L v c b = elim (due_tells A N L v c b) [
    | inl h ↦ inl (h.1, h.2, pumped_token_due v c b h.0, pumped_told_due v c b h.0)
    | inr h ↦ inr (pumped_token_not v c b h.0, pumped_told_not v c b h.0, h.1)
  ]

  pub pump_kept : IsLawful A → WellFormed N → (v a : ℕ) (c : CoreState V) → v ≢ 0 → c.engager v ≡ Some a → CoreInvariant v c → CoreInvariant 0 (pump A N v c)
  pump_kept L W v a c vn en K = record {
    label_walk = K.label_walk;
    message_walk = λ b y q. elim (pumped L v c b) [
      | inl h ↦ (let s = sent_message A N (c.label v) (N.weight b) y (sym h.2 ∙ q) in
          walk_value_more A N b s.0 y (λ z. vn (sym h.0 ∙ z)) (K.label_walk (N.tail b) s.0 (ap c.label h.0 ∙ s.1)) s.2)
      | inr h ↦ K.message_walk b y (sym h.0 ∙ q)
    ];
    entry_origin = λ x q. elim (pumped L v c 0) [ inl h ↦ absurd (vn (sym h.0 ∙ W.tail_zero)) | inr h ↦ K.entry_origin x (sym h.0 ∙ q) ];
    source_heard = elim (pumped L v c 0) [
      | inl h ↦ absurd (vn (sym h.0 ∙ W.tail_zero))
      | inr h ↦ elim K.source_heard [ inl m ↦ inl (h.0 ∙ m) | inr m ↦ inr m ]
    ];
    arc_heard = λ b x y r q f. elim (pumped L v c b) [
      | inl h ↦ inl (h.2 ∙ ap (λ o. sent (extend_label A o (N.weight b))) (sym h.3 ∙ q) ∙ ap (sent) f)
      | inr h ↦ elim (K.arc_heard b x y r (sym h.1 ∙ q) f) [ inl m ↦ inl (h.0 ∙ m) | inr m ↦ inr m ]
    ];
    idle_told = λ b r z q. elim (pumped L v c b) [
      | inl h ↦ h.3 ∙ ap c.label (sym h.0)
      | inr h ↦ elim (cases_eq (N.tail b) v) [
        | inl e ↦ h.1 ∙ h.2 e (sym h.0 ∙ q) ∙ ap c.label (sym e)
        | inr ne ↦ h.1 ∙ K.idle_told b r ne (sym h.0 ∙ q)
      ]
    ];
    neutral_idle = λ b r q. elim (pumped L v c b) [
      | inl h ↦ absurd (let g = ap c.engager h.0 in cc)
      | inr h ↦ h.0 ∙ K.neutral_idle b r q
    ];
    env_neutral = K.env_neutral;
    engager_held = λ u e q. let held = K.engager_held u e q in elim (pumped L v c e) [
      | inl h ↦ absurd (let g = held.0 in cc)
      | inr h ↦ (h.0 ∙ held.0, held.1)
    ];
    held_engager = λ e q. elim (pumped L v c e) [
      | inl h ↦ absurd (sent_held A N (extend_label A (c.label v) (N.weight e)) (sym h.2 ∙ q))
      | inr h ↦ K.held_engager e (sym h.0 ∙ q)
    ];
  }

  pub AtMost_arrive : IsLawful A → (a : ℕ) (x : V) (c : CoreState V) (v : ℕ) (y : V) → AtMost A N c.label v y → AtMost A N (arrive A N a x c).label v y
  AtMost_arrive L a x c v y m = let t = better_tells A N L x (c.label (N.head a)) in
      elim (put_tells c.label (N.head a) (better_of A x (c.label (N.head a))) v) [
        | inl h ↦ (t.0, h.1 ∙ t.1, L.ordered.transitive t.0 m.0 y (t.3 m.0 (ap c.label (sym h.0) ∙ m.1)) m.2)
        | inr h ↦ (m.0, h.1 ∙ m.1, m.2)
      ]

  pub AtMost_arrived : IsLawful A → (a : ℕ) (x : V) (c : CoreState V) → AtMost A N (arrive A N a x c).label (N.head a) x
  AtMost_arrived L a x c = let t = better_tells A N L x (c.label (N.head a)) in
      (t.0, put-same c.label (N.head a) (better_of A x (c.label (N.head a))) ∙ t.1, t.2)

  engaged_some : (o : Option ℕ) (a : ℕ) → engaged_by o a ≡ None → ⊥
  engaged_some None a h = cc
  engaged_some (Some e) a h = cc

  engaged_cases : (o : Option ℕ) (a e : ℕ) → engaged_by o a ≡ Some e → ((o ≡ None) × (a ≡ e)) ⊎ (o ≡ Some e)
  engaged_cases None a e h = let g : a ≡ e = cc in inl (refl, g)
  engaged_cases (Some f) a e h = inr h

  answer_cases : (o : Option ℕ) → ((o ≡ None) × (answer_to {V = V} o ≡ Held)) ⊎ ((e : ℕ) × (o ≡ Some e) × (answer_to {V = V} o ≡ Signal))
  answer_cases None = inl (refl, refl)
  answer_cases (Some e) = inr (e, refl, refl)

  -- an arc that carries something has a tail that is engaged, or is the environment's
  pub head_real : WellFormed N → (e a : ℕ) (c : CoreState V) → CoreInvariant e c → c.token a ≢ Idle → N.head a ≢ 0
  head_real W e a c K q = elim (cases_eq a 0) [
    | inl z ↦ λ h. W.source_in (sym W.head_zero ∙ ap N.head (sym z) ∙ h)
    | inr nz ↦ W.head_in a (λ h. q (K.neutral_idle a nz (ap c.engager h ∙ K.env_neutral)))
  ]

  pub arrive_kept : IsLawful A → WellFormed N → (a : ℕ) (x : V) (c : CoreState V) → c.token a ≡ Message x → CoreInvariant 0 c → CoreInvariant (N.head a) (arrive A N a x c)
  arrive_kept L W a x c q K =
      let v = N.head a in
      let t = better_tells A N L x (c.label (N.head a)) in
      let hn : N.head a ≢ 0 = head_real W 0 a c K (λ z. cc) in
      let token = λ (b : ℕ). put_tells c.token a (answer_to (c.engager (N.head a))) b in
      let label = λ (u : ℕ). put_tells c.label (N.head a) (better_of A x (c.label (N.head a))) u in
      let engager = λ (u : ℕ). put_tells c.engager (N.head a) (engaged_by (c.engager (N.head a)) a) u in
      record {
        label_walk = λ u z e. elim (label u) [
          | inl h ↦ (let s : z ≡ t.0 = (let g = t.1 in let k = h.1 in cc) in elim t.4 [
            | inl m ↦ subst (λ w. IsValueAt A N w z) (sym h.0) (subst (λ w. IsValueAt A N (N.head a) w) (sym (s ∙ m)) (K.message_walk a x q))
            | inr m ↦ subst (λ w. IsValueAt A N w z) (sym h.0) (K.label_walk (N.head a) z (m ∙ ap Some (sym s)))
          ])
          | inr h ↦ K.label_walk u z (sym h.1 ∙ e)
        ];
        message_walk = λ b y e. elim (token b) [
          | inl h ↦ absurd (elim (answer_cases (c.engager (N.head a))) [ inl k ↦ (let g = k.1 in let j = h.1 in cc) | inr k ↦ (let g = k.2 in let j = h.1 in cc) ])
          | inr h ↦ K.message_walk b y (sym h.1 ∙ e)
        ];
        entry_origin = λ y e. elim (token 0) [
          | inl h ↦ absurd (elim (answer_cases (c.engager (N.head a))) [ inl k ↦ (let g = k.1 in let j = h.1 in cc) | inr k ↦ (let g = k.2 in let j = h.1 in cc) ])
          | inr h ↦ K.entry_origin y (sym h.1 ∙ e)
        ];
        source_heard = elim K.source_heard [
          | inl m ↦ elim (token 0) [
            | inl h ↦ inr (let s : x ≡ A.origin = (let g = h.0 in cc) in
                subst (λ w. AtMost A N (arrive A N a x c).label w A.origin) (ap N.head (sym h.0) ∙ W.head_zero)
                (subst (λ w. AtMost A N (arrive A N a x c).label (N.head a) w) s (AtMost_arrived L a x c)))
            | inr h ↦ inl (h.1 ∙ m)
          ]
          | inr m ↦ inr (AtMost_arrive L a x c N.source A.origin m)
        ];
        arc_heard = λ b y z r f g. elim (K.arc_heard b y z r f g) [
          | inl m ↦ elim (token b) [
            | inl h ↦ inr (let s : x ≡ z = (let k = h.0 in cc) in
                subst (λ w. AtMost A N (arrive A N a x c).label w z) (ap N.head (sym h.0)) (subst (λ w. AtMost A N (arrive A N a x c).label (N.head a) w) s (AtMost_arrived L a x c)))
            | inr h ↦ inl (h.1 ∙ m)
          ]
          | inr m ↦ inr (AtMost_arrive L a x c (N.head b) z m)
        ];
        idle_told = λ b r ne e. elim (token b) [
          | inl h ↦ absurd (elim (answer_cases (c.engager (N.head a))) [ inl k ↦ (let g = k.1 in let j = h.1 in cc) | inr k ↦ (let g = k.2 in let j = h.1 in cc) ])
          | inr h ↦ K.idle_told b r r (sym h.1 ∙ e) ∙ sym (put-other c.label (N.head a) (better_of A x (c.label (N.head a))) (N.tail b) ne)
        ];
        neutral_idle = λ b nz e. elim (engager (N.tail b)) [
          | inl h ↦ absurd (engaged_some (c.engager (N.head a)) a (sym h.1 ∙ e))
          | inr h ↦ (let i = K.neutral_idle b nz (sym h.1 ∙ e) in put-other c.token a _ b (λ k. let g = ap c.token k in cc) ∙ i)
        ];
        env_neutral = put-other c.engager (N.head a) _ 0 (λ z. hn (sym z)) ∙ K.env_neutral;
        engager_held = λ u e f. elim (engager u) [
          | inl h ↦ elim (engaged_cases (c.engager (N.head a)) a e (sym h.1 ∙ f)) [
            | inl k ↦ (put-at c.token a _ e (sym k.1) ∙ ap (answer_to) k.0, ap N.head (sym k.1) ∙ sym h.0)
            | inr k ↦ (let held = K.engager_held (N.head a) e k in (put-other c.token a _ e (λ z. let g = ap c.token z in let j = held.0 in cc) ∙ held.0, held.1 ∙ sym h.0))
          ]
          | inr h ↦ (let held = K.engager_held u e (sym h.1 ∙ f) in (put-other c.token a _ e (λ z. let g = ap c.token z in let j = held.0 in cc) ∙ held.0, held.1))
        ];
        held_engager = λ b e. elim (token b) [
          | inl h ↦ elim (answer_cases (c.engager (N.head a))) [
            | inl k ↦ put-at c.engager (N.head a) _ (N.head b) (ap N.head h.0) ∙ ap (λ o. engaged_by o a) k.0 ∙ ap Some (sym h.0)
            | inr k ↦ absurd (let g = k.2 in let j = h.1 in cc)
          ]
          | inr h ↦ (let i = K.held_engager b (sym h.1 ∙ e) in elim (engager (N.head b)) [
            | inl k ↦ k.1 ∙ ap (λ o. engaged_by o a) (ap c.engager (sym k.0) ∙ i)
            | inr k ↦ k.1 ∙ i
          ])
        ];
      }

  rest_kept_at : WellFormed N → (v : ℕ) (c : CoreState V) (e : ℕ) → c.engager v ≡ Some e → out_idle A N v c ≡ true → CoreInvariant 0 c → CoreInvariant 0 (released A N v c (Some e) true)
  rest_kept_at W v c e en out K =
      let held = K.engager_held v e en in
      let token = λ (b : ℕ). put_tells c.token e Signal b in
      record {
        label_walk = K.label_walk;
        message_walk = λ b y q. elim (token b) [ inl h ↦ absurd (let g = h.1 in cc) | inr h ↦ K.message_walk b y (sym h.1 ∙ q) ];
        entry_origin = λ x q. elim (token 0) [ inl h ↦ absurd (let g = h.1 in cc) | inr h ↦ K.entry_origin x (sym h.1 ∙ q) ];
        source_heard = elim K.source_heard [
          | inl m ↦ inl (put-other c.token e Signal 0 (λ z. let g = ap c.token z in let j = held.0 in cc) ∙ m)
          | inr m ↦ inr m
        ];
        arc_heard = λ b y z r f g. elim (K.arc_heard b y z r f g) [
          | inl m ↦ inl (put-other c.token e Signal b (λ z2. let g2 = ap c.token z2 in let j = held.0 in cc) ∙ m)
          | inr m ↦ inr m
        ];
        idle_told = λ b r ne q. elim (token b) [ inl h ↦ absurd (let g = h.1 in cc) | inr h ↦ K.idle_told b r ne (sym h.1 ∙ q) ];
        neutral_idle = λ b nz q.
            let back = λ (i : c.token b ≡ Idle). put-other c.token e Signal b (λ z. let g = ap c.token z in let j = held.0 in cc) ∙ i in
            elim (put_tells c.engager v None (N.tail b)) [
              | inl h ↦ back (out_idle-at A N v c out b (W.real b (λ z. let g = ap c.engager (sym z ∙ h.0) in let j = K.env_neutral in cc)) h.0)
              | inr h ↦ back (K.neutral_idle b nz (sym h.1 ∙ q))
            ];
        env_neutral = put-other c.engager v None 0 (λ z. let g = ap c.engager z in let j = K.env_neutral in cc) ∙ K.env_neutral;
        engager_held = λ u a q. elim (put_tells c.engager v None u) [
          | inl h ↦ absurd (let g = h.1 in cc)
          | inr h ↦ (let other = K.engager_held u a (sym h.1 ∙ q) in
              (put-other c.token e Signal a (λ z. h.0 (sym other.1 ∙ ap N.head z ∙ held.1)) ∙ other.0, other.1))
        ];
        held_engager = λ a q. elim (token a) [
          | inl h ↦ absurd (let g = h.1 in cc)
          | inr h ↦ (let i = K.held_engager a (sym h.1 ∙ q) in
              put-other c.engager v None (N.head a) (λ z. h.0 (let g = ap c.engager z in cc)) ∙ i)
        ];
      }

  pub rest_kept : WellFormed N → (v : ℕ) (c : CoreState V) → CoreInvariant 0 c → CoreInvariant 0 (rest A N v c)
  rest_kept W v c K = go (c.engager v) (out_idle A N v c) refl refl
    where
      go : (o : Option ℕ) (t : Bool) → c.engager v ≡ o → out_idle A N v c ≡ t → CoreInvariant 0 (released A N v c o t)
      go None t p q = K
      go (Some e) false p q = K
      go (Some e) true p q = rest_kept_at W v c e p q K

  pub freed_kept : WellFormed N → (a : ℕ) (c : CoreState V) → c.token a ≡ Signal → CoreInvariant 0 c → CoreInvariant (N.tail a) (freed A N a c)
  freed_kept W a c s K =
      let token = λ (b : ℕ). put_tells c.token a Idle b in
      record {
        label_walk = K.label_walk;
        message_walk = λ b y q. elim (token b) [ inl h ↦ absurd (let g = h.1 in cc) | inr h ↦ K.message_walk b y (sym h.1 ∙ q) ];
        entry_origin = λ x q. elim (token 0) [ inl h ↦ absurd (let g = h.1 in cc) | inr h ↦ K.entry_origin x (sym h.1 ∙ q) ];
        source_heard = elim K.source_heard [
          | inl m ↦ inl (put-other c.token a Idle 0 (λ z. let g = ap c.token z in cc) ∙ m)
          | inr m ↦ inr m
        ];
        arc_heard = λ b y z r f g. elim (K.arc_heard b y z r f g) [
          | inl m ↦ inl (put-other c.token a Idle b (λ z2. let g2 = ap c.token z2 in cc) ∙ m)
          | inr m ↦ inr m
        ];
        idle_told = λ b r ne q. elim (token b) [ inl h ↦ absurd (ne (ap N.tail h.0)) | inr h ↦ K.idle_told b r r (sym h.1 ∙ q) ];
        neutral_idle = λ b nz q. elim (token b) [ inl h ↦ h.1 | inr h ↦ h.1 ∙ K.neutral_idle b nz q ];
        env_neutral = K.env_neutral;
        engager_held = λ u e q. let held = K.engager_held u e q in (put-other c.token a Idle e (λ z. let g = ap c.token z in let j = held.0 in cc) ∙ held.0, held.1);
        held_engager = λ b q. elim (token b) [ inl h ↦ absurd (let g = h.1 in cc) | inr h ↦ K.held_engager b (sym h.1 ∙ q) ];
      }

  pub settle_kept : IsLawful A → WellFormed N → (v a : ℕ) (c : CoreState V) → v ≢ 0 → c.engager v ≡ Some a → CoreInvariant v c → CoreInvariant 0 (settle A N v c)
  settle_kept L W v a c vn en K = rest_kept W v (pump A N v c) (pump_kept L W v a c vn en K)

  engaged_by_some : (o : Option ℕ) (a : ℕ) → (e : ℕ) × (engaged_by o a ≡ Some e)
  engaged_by_some None a = (a, refl)
  engaged_by_some (Some e) a = (e, refl)

  pub deliver_kept : IsLawful A → WellFormed N → (a : ℕ) (c : CoreState V) (t : Token V) → c.token a ≡ t → CoreInvariant 0 c → CoreInvariant 0 (delivered A N a c t)
  deliver_kept L W a c Idle q K = K
  deliver_kept L W a c (Message x) q K =
      let e = engaged_by_some (c.engager (N.head a)) a in
      settle_kept L W (N.head a) e.0 (arrive A N a x c) (head_real W 0 a c K (λ z. cc))
      (put-same c.engager (N.head a) (engaged_by (c.engager (N.head a)) a) ∙ e.1) (arrive_kept L W a x c q K)
  deliver_kept L W a c Held q K = K
  deliver_kept L W a c Signal q K = K

  tail_engaged : (a : ℕ) (c : CoreState V) → CoreInvariant 0 c → a ≢ 0 → (c.token a ≡ Idle → ⊥) → (e : ℕ) × (c.engager (N.tail a) ≡ Some e)
  tail_engaged a c K nz q = go (c.engager (N.tail a)) refl
    where
      go : (o : Option ℕ) → c.engager (N.tail a) ≡ o → (e : ℕ) × (o ≡ Some e)
      go None h = absurd (q (K.neutral_idle a nz h))
      go (Some e) h = (e, refl)

  settle_tail_kept : IsLawful A → WellFormed N → (a : ℕ) (c : CoreState V) → c.token a ≡ Signal → CoreInvariant 0 c → CoreInvariant 0 (settle_tail A N a (N.tail a) (freed A N a c))
  settle_tail_kept L W zero c q K = subst (λ v. CoreInvariant v (freed A N 0 c)) W.tail_zero (freed_kept W 0 c q K)
  settle_tail_kept L W (suc a) c q K =
      let e = tail_engaged (suc a) c K (λ z. omega arith) (λ z. cc) in
      settle_kept L W (N.tail (suc a)) e.0 (freed A N (suc a) c) (λ z. let g = ap c.engager z in let j = K.env_neutral in let k = e.1 in cc) e.1 (freed_kept W (suc a) c q K)

  pub accept_kept : IsLawful A → WellFormed N → (a : ℕ) (c : CoreState V) (t : Token V) → c.token a ≡ t → CoreInvariant 0 c → CoreInvariant 0 (accepted A N a c t)
  accept_kept L W a c Idle q K = K
  accept_kept L W a c (Message x) q K = K
  accept_kept L W a c Held q K = K
  accept_kept L W a c Signal q K = settle_tail_kept L W a c q K

  pub step_kept : IsLawful A → WellFormed N → (c : CoreState V) (e : Event) → CoreInvariant 0 c → CoreInvariant 0 (step A N c e)
  step_kept L W c (Deliver a) K = deliver_kept L W a c (c.token a) refl K
  step_kept L W c (Accept a) K = accept_kept L W a c (c.token a) refl K

  pub run_kept : IsLawful A → WellFormed N → (c : CoreState V) (es : List Event) → CoreInvariant 0 c → CoreInvariant 0 (run_from A N c es)
  run_kept L W c [] K = K
  run_kept L W c (e ∷ es) K = run_kept L W (step A N c e) es (step_kept L W c e K)

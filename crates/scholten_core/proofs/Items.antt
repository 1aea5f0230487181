-- The items that an event makes, against the tokens that it changes.
use Rattle.std.proofs.Common.{◌≡◌, ◌≢◌, ℕ, Bool, true, false, cond, eqb, ne_eqb, eq-eqb, Option, Some, None, List, [], ◌∷◌, ◌++◌, append-nil, ◌⊎◌, refl, sym, ap, ◌∙◌, subst, inl, inr, Contains}
use Rattle.scholten_core.proofs.Words.{cases_eq, cases_Bool, cond-true, cond-false, Token, Idle, Message, Held, Signal, Algebra, IsLawful, Network, WellFormed, CoreState, is_due, out_idle, pump, arrive, rest, released, freed, settle, sent, extend_label, answer_to, due_tells, put_tells, put-same, put-other, not_in_empty, here_as, later, head_or_tail, here, Agree}
use Rattle.scholten_core.specs.declared.item.Item.{Item}
use Rattle.scholten_core.specs.declared.item.Item.TheVariants.{Message as MessageOn, Signal as SignalOn}
use Rattle.scholten_core.specs.Items.{item_arc, at, item_of, pump_made, rest_made, settle_made, IsDistinct, IsOutList, Makes}
use Rattle.scholten_core.proofs.CoreInvariant.{CoreInvariant, pumped, arrive_kept, freed_kept}
use Rattle.scholten_core.proofs.Shares.{pump_agree, due_agree, out_idle_agree}

cond_append : {X : Type 0} (t : Bool) (i : X) (xs ys : List X) → cond t (i ∷ (xs ++ ys)) (xs ++ ys) ≡ cond t (i ∷ xs) xs ++ ys
cond_append true i xs ys = refl
cond_append false i xs ys = refl

pub at-append : {V : Type 0} (b : ℕ) (xs ys : List (Item V)) → at b (xs ++ ys) ≡ at b xs ++ at b ys
unfolding at
at-append b [] ys = refl
at-append b (i ∷ xs) ys = ap (λ zs. cond (eqb (item_arc i) b) (i ∷ zs) zs) (at-append b xs ys) ∙ cond_append (eqb (item_arc i) b) i (at b xs) (at b ys)

at-one : {V : Type 0} (b : ℕ) (i : Item V) → (item_arc i ≡ b) → at b (i ∷ []) ≡ i ∷ []
unfolding at
at-one b i e = cond-true (eqb (item_arc i) b) _ _ (eq-eqb (item_arc i) b e)

at-other : {V : Type 0} (b : ℕ) (i : Item V) → (item_arc i ≢ b) → at b (i ∷ []) ≡ []
unfolding at
at-other b i e = cond-false (eqb (item_arc i) b) _ _ (ne_eqb (item_arc i) b e)

pub at-nil : {V : Type 0} (b : ℕ) → ◌≡◌ {A = List (Item V)} (at b []) []
unfolding at
at-nil b = refl

pub at-item_of : {V : Type 0} (b : ℕ) (t : Token V) → at b (item_of b t) ≡ item_of b t
at-item_of b Idle = at-nil b
at-item_of b (Message x) = at-one b (MessageOn b x) refl
at-item_of b Held = at-nil b
at-item_of b Signal = at-one b (SignalOn b) refl

pub at-item_other : {V : Type 0} (b u : ℕ) (t : Token V) → u ≢ b → at b (item_of u t) ≡ []
at-item_other b u Idle n = at-nil b
at-item_other b u (Message x) n = at-other b (MessageOn u x) n
at-item_other b u Held n = at-nil b
at-item_other b u Signal n = at-other b (SignalOn u) n

module _ {V : Type 0} (A : Algebra V) (N : Network) where
  abbrev pub due_item : ℕ → CoreState V → ℕ → List (Item V)
  due_item v d b = cond (is_due A N v d b) (item_of b (sent (extend_label A (d.label v) (N.weight b)))) []

  due_item_other : (v : ℕ) (d : CoreState V) (u b : ℕ) → u ≢ b → at b (due_item v d u) ≡ []
  due_item_other v d u b n = elim (cases_Bool (is_due A N v d u)) [
    | inl t ↦ ap (at b) (cond-true _ _ _ t) ∙ at-item_other b u (sent (extend_label A (d.label v) (N.weight u))) n
    | inr f ↦ ap (at b) (cond-false _ _ _ f) ∙ at-nil b
  ]

  pub due_item_here : (v : ℕ) (d : CoreState V) (b : ℕ) → at b (due_item v d b) ≡ due_item v d b
  due_item_here v d b = elim (cases_Bool (is_due A N v d b)) [
    | inl t ↦ ap (at b) (cond-true _ _ _ t) ∙ at-item_of b (sent (extend_label A (d.label v) (N.weight b))) ∙ sym (cond-true _ _ _ t)
    | inr f ↦ ap (at b) (cond-false _ _ _ f) ∙ at-nil b ∙ sym (cond-false _ _ _ f)
  ]

  pub pump_made_none : (v : ℕ) (d : CoreState V) (xs : List ℕ) (b : ℕ) → (Contains xs b → ⊥) → at b (pump_made A N v d xs) ≡ []
  pump_made_none v d [] b h = at-nil b
  pump_made_none v d (u ∷ us) b h = at-append b (due_item v d u) (pump_made A N v d us)
      ∙ (λ i. due_item_other v d u b (λ e. h (here_as b u us (sym e))) i ++ pump_made_none v d us b (λ l. h (later u b us l)) i)

  pub pump_made_at : (v : ℕ) (d : CoreState V) (xs : List ℕ) (b : ℕ) → IsDistinct A N xs → Contains xs b → at b (pump_made A N v d xs) ≡ due_item v d b
  pump_made_at v d [] b D l = absurd (not_in_empty b l)
  pump_made_at v d (u ∷ us) b D l = elim (cases_eq u b) [
    | inl e ↦ at-append b (due_item v d u) (pump_made A N v d us)
        ∙ (λ i. at b (due_item v d (e i)) ++ pump_made_none v d us b (λ k. D.0 (subst (λ w. Contains us w) (sym e) k)) i)
        ∙ ap (λ zs. zs ++ []) (due_item_here v d b) ∙ append-nil (due_item v d b)
    | inr n ↦ (let k : Contains us b = elim (head_or_tail u b us l) [ inl e ↦ absurd (n e) | inr k ↦ k ] in
        at-append b (due_item v d u) (pump_made A N v d us) ∙ (λ i. due_item_other v d u b n i ++ pump_made_at v d us b D.1 k i))
  ]

  rest_made_at : (v : ℕ) (p : CoreState V) (o : Option ℕ) (t : Bool) (b : ℕ) → ((e : ℕ) → o ≡ Some e → p.token e ≡ Held) →
      (((released A N v p o t).token b ≡ p.token b) × (at b (rest_made A N o t) ≡ [])) ⊎ ((p.token b ≡ Held) × ((released A N v p o t).token b ≡ Signal) × (at b (rest_made A N o t) ≡ SignalOn b ∷ []))
  rest_made_at v p None t b h = inl (refl, at-nil b)
  rest_made_at v p (Some e) false b h = inl (refl, at-nil b)
  rest_made_at v p (Some e) true b h = elim (put_tells p.token e Signal b) [
    | inl k ↦ inr (ap p.token k.0 ∙ h e refl, k.1, at-one b (SignalOn e) (sym k.0) ∙ ap (λ j. SignalOn j ∷ []) (sym k.0))
    | inr k ↦ inl (k.1, at-other b (SignalOn e) (λ q. k.0 (sym q)))
  ]

  pub settle_makes : IsLawful A → (v : ℕ) (d : CoreState V) (xs : List ℕ) (b : ℕ) → IsOutList A N v xs → ((e : ℕ) → d.engager v ≡ Some e → d.token e ≡ Held) →
      Makes A N b (d.token b) ((settle A N v d).token b) (at b (settle_made A N v d xs))
  settle_makes L v d xs b O h =
      let split = at-append b (pump_made A N v d xs) (rest_made A N (d.engager v) (out_idle A N v (pump A N v d))) in
      let held = λ (e : ℕ) (q : d.engager v ≡ Some e). elim (pumped A N L v d e) as (λ _. (pump A N v d).token e
      ≡ Held) [ inl k ↦ absurd (let g = h e q in let j = k.1 in cc) | inr k ↦ k.0 ∙ h e q ] in
      elim (due_tells A N L v d b) [
        | inl k ↦ (let p : at b (pump_made A N v d xs) ≡ item_of b ((pump A N v d).token b) =
            pump_made_at v d xs b O.distinct (O.all b k.1) ∙ cond-true _ _ _ k.0 ∙ ap (item_of b) (sym (cond-true (is_due A N v d b) _ _ k.0)) in
            elim (rest_made_at v (pump A N v d) (d.engager v) (out_idle A N v (pump A N v d)) b held) [
              | inl r ↦ inr (ap (item_of b) k.2, split ∙ (λ i. p i ++ r.1 i) ∙ append-nil (item_of b ((pump A N v d).token b)) ∙ ap (item_of b) (sym r.0))
              | inr r ↦ absurd (sent_never (extend_label A (d.label v) (N.weight b)) (sym (cond-true (is_due A N v d b) _ _ k.0) ∙ r.0))
            ])
        | inr k ↦ (let p : at b (pump_made A N v d xs) ≡ [] = (elim (cases_eq (N.tail b) v) [
          | inl e ↦ pump_made_at v d xs b O.distinct (O.all b e) ∙ cond-false _ _ _ k.0
          | inr n ↦ pump_made_none v d xs b (λ l. n (O.only b l))
        ]) in
            let u : (pump A N v d).token b ≡ d.token b = cond-false (is_due A N v d b) _ _ k.0 in
            elim (rest_made_at v (pump A N v d) (d.engager v) (out_idle A N v (pump A N v d)) b held) [
              | inl r ↦ inl (r.0 ∙ u, split ∙ (λ i. p i ++ r.1 i))
              | inr r ↦ inr (ap (item_of b) (sym u ∙ r.0), split ∙ (λ i. p i ++ r.2 i) ∙ ap (item_of b) (sym r.1))
            ])
      ]
    where
      sent_never : (o : Option V) → sent o ≡ Held → ⊥
      sent_never None q = cc
      sent_never (Some y) q = cc

  -- a delivery: its own arc has the items of its new token, each other arc nothing or its new items
  pub message_makes : IsLawful A → WellFormed N → (a : ℕ) (x : V) (c : CoreState V) (xs : List ℕ) → c.token a ≡ Message x → CoreInvariant A N 0 c → IsOutList A N (N.head a) xs →
      (at a (item_of a (answer_to (c.engager (N.head a))) ++ settle_made A N (N.head a) (arrive A N a x c) xs) ≡ item_of a ((settle A N (N.head a) (arrive A N a x c)).token a))
      × ((b : ℕ) → b ≢ a → Makes A N b (c.token b) ((settle A N (N.head a) (arrive A N a x c)).token b)
      (at b (item_of a (answer_to (c.engager (N.head a))) ++ settle_made A N (N.head a) (arrive A N a x c) xs)))
  message_makes L W a x c xs q K O =
      let kept_next = arrive_kept A N L W a x c q K in
      let S = λ (b : ℕ). settle_makes L (N.head a) (arrive A N a x c) xs b O (λ e r. (kept_next.engager_held (N.head a) e r).0) in
      let t = answer_to {V = V} (c.engager (N.head a)) in
      let ta : (arrive A N a x c).token a ≡ answer_to (c.engager (N.head a)) = put-same c.token a (answer_to (c.engager (N.head a))) in
      let split = λ (b : ℕ). at-append b (item_of a (answer_to {V = V} (c.engager (N.head a)))) (settle_made A N (N.head a) (arrive A N a x c) xs) in (
        split a ∙ (elim (S a) [
          | inl h ↦ (λ i. at-item_of a (answer_to {V = V} (c.engager (N.head a))) i ++ h.1 i) ∙ append-nil (item_of a (answer_to {V = V} (c.engager (N.head a)))) ∙ ap (item_of a) (sym (h.0 ∙ ta))
          | inr h ↦ (λ i. (at-item_of a (answer_to {V = V} (c.engager (N.head a))) ∙ ap (item_of a) (sym ta) ∙ h.0) i ++ h.1 i)
        ]),
        λ b n. (let tb : (arrive A N a x c).token b ≡ c.token b = put-other c.token a (answer_to (c.engager (N.head a))) b n in
            let none : at b (item_of a (answer_to {V = V} (c.engager (N.head a)))) ≡ [] = at-item_other b a (answer_to {V = V} (c.engager (N.head a))) (λ e. n (sym e)) in
            elim (S b) [
              | inl h ↦ inl (h.0 ∙ tb, split b ∙ (λ i. none i ++ h.1 i))
              | inr h ↦ inr (ap (item_of b) (sym tb) ∙ h.0, split b ∙ (λ i. none i ++ h.1 i))
            ]),
      )

  pub at-first : (b : ℕ) (i : Item V) (rest : List (Item V)) → (item_arc i ≡ b) → at b (i ∷ rest) ≡ i ∷ at b rest
  unfolding at
  at-first b i rest e = cond-true (eqb (item_arc i) b) _ _ (eq-eqb (item_arc i) b e)

  pub at-skip : (b : ℕ) (i : Item V) (rest : List (Item V)) → (item_arc i ≢ b) → at b (i ∷ rest) ≡ at b rest
  unfolding at
  at-skip b i rest e = cond-false (eqb (item_arc i) b) _ _ (ne_eqb (item_arc i) b e)

  pub signal_makes : IsLawful A → WellFormed N → (a : ℕ) (c : CoreState V) (xs : List ℕ) → c.token a ≡ Signal → CoreInvariant A N 0 c → IsOutList A N (N.tail a) xs →
      (at a (settle_made A N (N.tail a) (freed A N a c) xs) ≡ item_of a ((settle A N (N.tail a) (freed A N a c)).token a))
      × ((b : ℕ) → b ≢ a → Makes A N b (c.token b) ((settle A N (N.tail a) (freed A N a c)).token b) (at b (settle_made A N (N.tail a) (freed A N a c) xs)))
  signal_makes L W a c xs q K O =
      let kept_next = freed_kept A N W a c q K in
      let S = λ (b : ℕ). settle_makes L (N.tail a) (freed A N a c) xs b O (λ e r. (kept_next.engager_held (N.tail a) e r).0) in
      let ta : (freed A N a c).token a ≡ Idle = put-same c.token a Idle in (
        (elim (S a) [ inl h ↦ h.1 ∙ ap (item_of a) (sym (h.0 ∙ ta)) | inr h ↦ h.1 ]),
        λ b n. (let tb : (freed A N a c).token b ≡ c.token b = put-other c.token a Idle b n in
            elim (S b) [ inl h ↦ inl (h.0 ∙ tb, h.1) | inr h ↦ inr (ap (item_of b) (sym tb) ∙ h.0, h.1) ]),
      )

module _ {V : Type 0} (A : Algebra V) (N : Network) where
  pub token_told : (a : ℕ) (x : V) (zs : List (Item V)) (t : Token V) → item_of a t ≡ MessageOn a x ∷ zs → t ≡ Message x
  token_told a x zs Idle e = cc
  token_told a x zs (Message y) e = cc
  token_told a x zs Held e = cc
  token_told a x zs Signal e = cc

  pub token_back : (a : ℕ) (zs : List (Item V)) (t : Token V) → item_of a t ≡ SignalOn a ∷ zs → t ≡ Signal
  token_back a zs Idle e = cc
  token_back a zs (Message y) e = cc
  token_back a zs Held e = cc
  token_back a zs Signal e = refl

  -- what the part makes of its own tables is what the state makes
  pub pump_made_agree : (mine : ℕ → Bool) (v : ℕ) (c d : CoreState V) → mine v ≡ true → Agree A N mine c d → (xs : List ℕ) → ((b : ℕ) → Contains xs b → N.tail b ≡ v) →
      pump_made A N v d xs ≡ pump_made A N v c xs
  pump_made_agree mine v c d m G [] h = refl
  pump_made_agree mine v c d m G (b ∷ xs) h = λ i.
      cond (due_agree A N mine v c d b m (ap mine (h b (here b xs)) ∙ m) G i) (item_of b (sent (extend_label A (G.label v m i) (N.weight b)))) []
      ++ pump_made_agree mine v c d m G xs (λ u l. h u (later b u xs l)) i

  pub settle_made_agree : (mine : ℕ → Bool) (v : ℕ) (c d : CoreState V) → mine v ≡ true → Agree A N mine c d → (xs : List ℕ) → IsOutList A N v xs → settle_made A N v d xs ≡ settle_made A N v c xs
  settle_made_agree mine v c d m G xs O = λ i.
      pump_made_agree mine v c d m G xs O.only i
      ++ rest_made A N (G.engager v m i) (out_idle_agree A N mine v (pump A N v c) (pump A N v d) m (pump_agree A N mine v c d m G) i)

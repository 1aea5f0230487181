-- Arcs offered one after the other are the arcs pumped at once.
use Rattle.shard_part.proofs.Words.{◌≡◌, ◌≢◌, ℕ, ◌+◌, ◌<◌, ◌≤◌, Bool, true, false, cond, Option, Some, None, List, [], ◌∷◌, ◌++◌, length, set, get_or, ◌⊎◌, refl, sym, ap, ◌∙◌, subst, inl, inr, arith, length-set, get_or-set_same, get_or-set_other, Contains, cases_eq, cond-true, cond-false, Item, MessageOn, Algebra, Network, item_of, pump_made, IsDistinct, counted_on, top, PartData, state_in, token_if, network_of, place_in, Channels, channels_of, message_weight, signal_weight, total, route, routes, with_message, offered_all, total_append, not_in_empty, here, here_as, later, head_or_tail}
use Rattle.std.proofs.Math.Nat.{min-le_right, min-eq_left}
use Rattle.scholten_core.specs.Diffusion.{CoreState, is_idle, is_due, pump, sent, extend_label}
use Rattle.shard_part.proofs.Routed.{routes-append}
use Rattle.scholten_core.proofs.Basics.{due_idle, due_same, pumped_same}

pub counted_none : (n : ℕ) → n ≤ top → counted_on 0 n ≡ n
counted_none n h = min-eq_left (let e : n + 0 ≤ top = omega (arith, h) in e) ∙ (let z : n + 0 ≡ n = omega arith in z)

pub counted_more : (j k n : ℕ) → counted_on k (counted_on j n) ≡ counted_on (j + k) n
counted_more j k n = omega arith

pub counted_top : (k n : ℕ) → counted_on k n ≤ top
counted_top k n = min-le_right (n + k) top

-- a counter after two lists of items
pub counted_append : {X : Type 0} (f : X → ℕ) (xs ys : List X) (a n m : ℕ) → n ≡ counted_on (total f xs) a → m ≡ counted_on (total f ys) n → m ≡ counted_on (total f (xs ++ ys)) a
counted_append f xs ys a n m p q = q ∙ ap (counted_on (total f ys)) p ∙ counted_more (total f xs) (total f ys) a ∙ ap (λ k. counted_on k a) (sym (total_append f xs ys))

module _ {V : Type 0} (A : Algebra V) (N : Network) where
  pub listed_or : (b : ℕ) (xs : List ℕ) → Contains xs b ⊎ (Contains xs b → ⊥)
  listed_or b [] = inr (not_in_empty b)
  listed_or b (u ∷ us) = elim (cases_eq b u) [
    | inl e ↦ inl (here_as b u us e)
    | inr n ↦ (elim (listed_or b us) [
      | inl l ↦ inl (later u b us l)
      | inr m ↦ inr (λ l. elim (head_or_tail u b us l) [ inl e ↦ n (sym e) | inr k ↦ m k ])
    ])
  ]

  -- what pumping makes on one arc
  abbrev pub offer_made : ℕ → CoreState V → ℕ → List (Item V)
  offer_made v d b = cond (is_due A N v d b) (item_of b (sent (extend_label A (d.label v) (N.weight b)))) []

  made_same : (v : ℕ) (c d : CoreState V) (xs : List ℕ) → c.label v ≡ d.label v
      → ((b : ℕ) → Contains xs b → (c.token b ≡ d.token b) × (c.told b ≡ d.told b)) → pump_made A N v c xs ≡ pump_made A N v d xs
  made_same v c d [] r h = refl
  made_same v c d (b ∷ xs) r h = let k = h b (here b xs) in
      λ i. cond (due_same A N v c d b k.0 k.1 r i) (item_of b (sent (extend_label A (r i) (N.weight b)))) [] ++ made_same v c d xs r (λ u l. h u (later b u xs l)) i

  pub made_no_back : (v : ℕ) (d : CoreState V) (xs : List ℕ) → total signal_weight (pump_made A N v d xs) ≡ 0
  made_no_back v d [] = refl
  made_no_back v d (b ∷ xs) =
      let r = made_no_back v d xs in
      let a = total_append signal_weight (offer_made v d b) (pump_made A N v d xs) in
      let o = one (is_due A N v d b) (extend_label A (d.label v) (N.weight b)) in
      omega (arith, r, a, o)
    where
      one : (t : Bool) (o : Option V) → total signal_weight (cond t (item_of b (sent o)) []) ≡ 0
      one false o = refl
      one true None = refl
      one true (Some y) = refl

module _ {S V : Type 0} (A : Algebra V) where
  -- q is p after these arcs out of v were offered its label
  pub record Offers (v : ℕ) (xs : List ℕ) (p q : PartData S V) : Type 0 where
    pub setup : q.setup ≡ p.setup
    pub shard : q.shard ≡ p.shard
    pub labels : q.labels ≡ p.labels
    pub engagers : q.engagers ≡ p.engagers
    pub done : (b : ℕ) → Contains xs b → ((state_in q).told b ≡ (pump A (network_of p.setup) v (state_in p)).told b)
        × (is_idle ((state_in q).token b) ≡ is_idle ((pump A (network_of p.setup) v (state_in p)).token b))
    pub left : (b : ℕ) → (Contains xs b → ⊥) → ((state_in q).told b ≡ (state_in p).told b) × ((state_in q).token b ≡ (state_in p).token b)
    pub channels : channels_of q ≡ routes (network_of p.setup) (place_in p.setup) p.shard (pump_made A (network_of p.setup) v (state_in p) xs) (channels_of p)
    pub sent : q.sent ≡ counted_on (total message_weight (pump_made A (network_of p.setup) v (state_in p) xs)) p.sent
    pub signalled : q.signalled ≡ p.signalled
    pub delivered : q.delivered ≡ p.delivered
    pub accepted : q.accepted ≡ p.accepted

  offers_step : (v b : ℕ) (bs : List ℕ) (p q : PartData S V) (ts : List (Option V)) (fs : List Bool) (qs : List (Item V)) (os : List (List (Item V))) (n : ℕ) →
      (Contains bs b → ⊥) →
      get_or ts b None ≡ (pump A (network_of p.setup) v (state_in p)).told b → is_idle {V = V} (token_if (get_or fs b false)) ≡ is_idle ((pump A (network_of p.setup) v (state_in p)).token b) →
      ((u : ℕ) → u ≢ b → get_or ts u None ≡ get_or p.told u None) → ((u : ℕ) → u ≢ b → get_or fs u false ≡ get_or p.busy u false) →
      record { queue = qs; outs = os } ≡ routes (network_of p.setup) (place_in p.setup) p.shard (offer_made A (network_of p.setup) v (state_in p) b) (channels_of p) →
      n ≡ counted_on (total message_weight (offer_made A (network_of p.setup) v (state_in p) b)) p.sent →
      Offers v bs (record p { told = ts; busy = fs; queue = qs; outs = os; sent = n }) q → Offers v (b ∷ bs) p q
  offers_step v b bs p q ts fs qs os n apart here idle told busy channels count R =
      let N = network_of p.setup in
      let p1 : PartData S V = record p { told = ts; busy = fs; queue = qs; outs = os; sent = n } in
      let ne : (u : ℕ) → Contains bs u → u ≢ b = λ u l e. apart (subst (λ w. Contains bs w) e l) in
      let token : (u : ℕ) → u ≢ b → (state_in p1).token u ≡ (state_in p).token u = λ u w. ap token_if (busy u w) in
      let made : pump_made A N v (state_in p1) bs ≡ pump_made A N v (state_in p) bs = made_same A N v (state_in p1) (state_in p) bs refl (λ u l. (token u (ne u l), told u (ne u l))) in
      record {
        setup = R.setup;
        shard = R.shard;
        labels = R.labels;
        engagers = R.engagers;
        done = λ u l. elim (head_or_tail b u bs l) [
          | inl e ↦ (let k = R.left u (λ m. apart (subst (λ w. Contains bs w) (sym e) m)) in (
            k.0 ∙ ap (λ w. get_or ts w None) (sym e) ∙ here ∙ ap (pump A N v (state_in p)).told e,
            ap is_idle k.1 ∙ ap (λ w. is_idle {V = V} (token_if (get_or fs w false))) (sym e) ∙ idle ∙ ap (λ w. is_idle ((pump A N v (state_in p)).token w)) e,
          ))
          | inr m ↦ (let k = R.done u m in let s = pumped_same A N v (state_in p1) (state_in p) u (token u (ne u m)) (told u (ne u m)) refl in (k.0 ∙ s.1, k.1 ∙ ap is_idle s.0))
        ];
        left = λ u h. let k = R.left u (λ m. h (later b u bs m)) in let w : u ≢ b = λ e. h (here_as u b bs e) in (k.0 ∙ told u w, k.1 ∙ token u w);
        channels = R.channels ∙ (λ i. routes N (place_in p.setup) p.shard (made i) (channels i))
            ∙ sym (routes-append N (place_in p.setup) p.shard (offer_made A N v (state_in p) b) (pump_made A N v (state_in p) bs) (channels_of p));
        sent = counted_append message_weight (offer_made A N v (state_in p) b) (pump_made A N v (state_in p) bs) p.sent n q.sent count (R.sent
            ∙ ap (λ xs. counted_on (total message_weight xs) n) made);
        signalled = R.signalled;
        delivered = R.delivered;
        accepted = R.accepted;
      }

  -- what the arcs after b become, from any offered values, flags, lists and count
  abbrev Later : ℕ → List ℕ → PartData S V → Type 0
  Later v bs p = (ts : List (Option V)) (fs : List Bool) (qs : List (Item V)) (os : List (List (Item V))) (n : ℕ) → n ≤ top → length ts ≡ length p.told → length fs ≡ length p.busy →
      Offers v bs (record p { told = ts; busy = fs; queue = qs; outs = os; sent = n }) (offered_all A v bs (record p { told = ts; busy = fs; queue = qs; outs = os; sent = n }))

  offers_one : (v b : ℕ) (bs : List ℕ) (p : PartData S V) → p.sent ≤ top → b < length p.told → b < length p.busy → (Contains bs b → ⊥) → Later v bs p →
      (t : Bool) → is_due A (network_of p.setup) v (state_in p) b ≡ t → (o : Option V) → extend_label A ((state_in p).label v) ((network_of p.setup).weight b) ≡ o →
      Offers v (b ∷ bs) p (offered_all A v bs (cond t (with_message b o (record p { told = set p.told b ((state_in p).label v) })) p))
  offers_one v b bs p s lt lb apart later false d o e =
      let N = network_of p.setup in
      let none : offer_made A N v (state_in p) b ≡ [] = cond-false _ _ _ d in
      offers_step v b bs p (offered_all A v bs p) p.told p.busy p.queue p.outs p.sent apart (sym (cond-false _ _ _ d)) (ap is_idle (sym (cond-false _ _ _ d))) (λ u w. refl) (λ u w. refl)
      (ap (λ xs. routes N (place_in p.setup) p.shard xs (channels_of p)) (sym none)) (sym (counted_none p.sent s)
      ∙ ap (λ xs. counted_on (total message_weight xs) p.sent) (sym none)) (later p.told p.busy p.queue p.outs p.sent s refl refl)
  offers_one v b bs p s lt lb apart later true d None e =
      let N = network_of p.setup in
      let none : offer_made A N v (state_in p) b ≡ [] = cond-true _ _ _ d ∙ ap (λ o. item_of b (sent o)) e in
      offers_step v b bs p (offered_all A v bs (record p { told = set p.told b ((state_in p).label v) })) (set p.told b ((state_in p).label v)) p.busy p.queue p.outs p.sent apart
      (get_or-set_same p.told b ((state_in p).label v) None lt ∙ sym (cond-true _ _ _ d))
      (due_idle A N v (state_in p) b d ∙ ap is_idle (sym (cond-true _ _ _ d ∙ ap sent e)))
      (λ u w. get_or-set_other p.told b u ((state_in p).label v) None w) (λ u w. refl)
      (ap (λ xs. routes N (place_in p.setup) p.shard xs (channels_of p)) (sym none)) (sym (counted_none p.sent s) ∙ ap (λ xs. counted_on (total message_weight xs) p.sent) (sym none))
      (later (set p.told b ((state_in p).label v)) p.busy p.queue p.outs p.sent s (length-set p.told b ((state_in p).label v)) refl)
  offers_one v b bs p s lt lb apart later true d (Some y) e =
      let N = network_of p.setup in
      let one : offer_made A N v (state_in p) b ≡ MessageOn b y ∷ [] = cond-true _ _ _ d ∙ ap (λ o. item_of b (sent o)) e in
      let l : Channels V = route N (place_in p.setup) p.shard (MessageOn b y) (channels_of p) in
      offers_step v b bs p (offered_all A v bs (record p { told = set p.told b ((state_in p).label v); busy = set p.busy b true; queue = l.queue; outs = l.outs; sent = counted_on 1 p.sent }))
      (set p.told b ((state_in p).label v)) (set p.busy b true) l.queue l.outs (counted_on 1 p.sent) apart
      (get_or-set_same p.told b ((state_in p).label v) None lt ∙ sym (cond-true _ _ _ d))
      (ap (λ f. is_idle {V = V} (token_if f)) (get_or-set_same p.busy b true false lb) ∙ ap is_idle (sym (cond-true _ _ _ d ∙ ap sent e)))
      (λ u w. get_or-set_other p.told b u ((state_in p).label v) None w) (λ u w. get_or-set_other p.busy b u true false w)
      (ap (λ xs. routes N (place_in p.setup) p.shard xs (channels_of p)) (sym one)) (ap (λ xs. counted_on (total message_weight xs) p.sent) (sym one))
      (later (set p.told b ((state_in p).label v)) (set p.busy b true) l.queue l.outs (counted_on 1 p.sent) (counted_top 1 p.sent)
      (length-set p.told b ((state_in p).label v)) (length-set p.busy b true))

  pub offers : (v : ℕ) (xs : List ℕ) (p : PartData S V) → p.sent ≤ top → IsDistinct A (network_of p.setup) xs
      → ((b : ℕ) → Contains xs b → (b < length p.told) × (b < length p.busy)) → Offers v xs p (offered_all A v xs p)
  unfolding offered_all
  offers v [] p s D l = record {
    setup = refl;
    shard = refl;
    labels = refl;
    engagers = refl;
    done = λ b k. absurd (not_in_empty b k);
    left = λ b k. (refl, refl);
    channels = refl;
    sent = sym (counted_none p.sent s);
    signalled = refl;
    delivered = refl;
    accepted = refl;
  }
  offers v (b ∷ bs) p s D l = offers_one v b bs p s (l b (here b bs)).0 (l b (here b bs)).1 D.0
      (λ ts fs qs os n h a c. offers v bs (record p { told = ts; busy = fs; queue = qs; outs = os; sent = n }) h D.1
      (λ u k. let r = l u (later b u bs k) in let r0 = r.0 in let r1 = r.1 in (omega (arith, r0, a), omega (arith, r1, c))))
      (is_due A (network_of p.setup) v (state_in p) b) refl (extend_label A ((state_in p).label v) ((network_of p.setup).weight b)) refl

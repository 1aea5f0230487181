-- One item taken by one part is one enabled event of every state of which the part holds its share.
use Rattle.shard_part.proofs.Words.{◌≡◌, ◌≢◌, ℕ, zero, suc, ◌+◌, ◌<◌, Bool, true, false, ◌&&◌, eqb, List, [], ◌∷◌, ◌++◌, length, refl, sym, ap, ◌∙◌, subst, arith, eq-eqb, ne_eqb, eqb-true, IsPermutation, Token, Idle, Message, Held, Signal, Accept, Item, MessageOn, SignalOn, Algebra, same_no_worse, Lawful, Network, WellFormed, CoreState, arrive, freed, step, answer_to, is_enabled, is_message, is_signal, one_if, item_arc, item_of, settle_made, Agree, PartData, state_in, vertex_of, event_of, mine, total, in_flight, at_place, channels_weight, channels_of, part_weight, outgoing, taken, made, arrive_here, HandledItemIn, HoldsTables, HoldsShareIn}
use Rattle.std.proofs.lemmas.Bool.{false≢true, and_parts, and_from}
use Rattle.scholten_core.proofs.CoreInvariant.{CoreInvariant, head_real}
use Rattle.scholten_core.proofs.Shares.{agree_then, message_frame, signal_frame, freed_agree}
use Rattle.shard_part.proofs.Here.{arrive_here_agree, message_here, signal_here}
use Rattle.scholten_core.proofs.Items.{settle_made_agree, token_told, token_back}
use Rattle.shard_store.proofs.Totals.{sum_member, total_permutation}
use Rattle.shard_part.proofs.InFlight.{message_weighs, signal_weighs, last_weighs, outgoing_is}
use Rattle.shard_part.proofs.Routed.{routed}

module _ {V : Type 0} (A : Algebra V) where
  -- a test whether two items are the same
  same_item : Item V → Item V → Bool
  same_item (MessageOn a x) (MessageOn b y) = eqb a b && (A.no_worse x y && A.no_worse y x)
  same_item (MessageOn a x) (SignalOn b) = false
  same_item (SignalOn a) (MessageOn b y) = false
  same_item (SignalOn a) (SignalOn b) = eqb a b

  same_self : Lawful A → (i : Item V) → same_item i i ≡ true
  unfolding same_item
  same_self L (MessageOn a x) = and_from _ _ (eq-eqb a a refl) (and_from _ _ (same_no_worse A.no_worse L.ordered x) (same_no_worse A.no_worse L.ordered x))
  same_self L (SignalOn a) = eq-eqb a a refl

  same_true : Lawful A → (i j : Item V) → same_item i j ≡ true → j ≡ i
  unfolding same_item
  same_true L (MessageOn a x) (MessageOn b y) h =
      let p = and_parts (eqb a b) (A.no_worse x y && A.no_worse y x) h in
      let q = and_parts (A.no_worse x y) (A.no_worse y x) p.1 in
      sym (λ k. MessageOn (eqb-true a b p.0 k) (L.ordered.antisymmetric x y q.0 q.1 k))
  same_true L (MessageOn a x) (SignalOn b) h = absurd (false≢true h)
  same_true L (SignalOn a) (MessageOn b y) h = absurd (false≢true h)
  same_true L (SignalOn a) (SignalOn b) h = sym (λ k. SignalOn (eqb-true a b h k))

  -- weighs the item i at the shard s alone
  pub marks : ℕ → Item V → ℕ → Item V → ℕ
  marks s i r j = one_if (eqb r s && same_item i j)

  pub marks_self : Lawful A → (s : ℕ) (i : Item V) → marks s i s i ≡ 1
  unfolding marks
  marks_self L s i = ap one_if (and_from _ _ (eq-eqb s s refl) (same_self L i))

  pub marks_true : Lawful A → (s : ℕ) (i : Item V) (r : ℕ) (j : Item V) → 0 < marks s i r j → (r ≡ s) × (j ≡ i)
  unfolding marks
  marks_true L s i r j h = go (eqb r s && same_item i j) refl h
    where
      go : (t : Bool) → eqb r s && same_item i j ≡ t → 0 < one_if t → (r ≡ s) × (j ≡ i)
      go true e l = let p = and_parts (eqb r s) (same_item i j) e in (eqb-true r s p.0, same_true L i j p.1)
      go false e l = absurd (omega (arith, l))

module _ {V : Type 0} (A : Algebra V) (N : Network) (place : ℕ → ℕ) where
  -- an item of a queue is in c, and belongs there
  pub record Stands (c : CoreState V) (s : ℕ) (i : Item V) : Type 0 where
    pub real : item_arc i < suc N.arcs
    pub here : place (vertex_of N i) ≡ s
    pub token : item_of (item_arc i) (c.token (item_arc i)) ≡ i ∷ []

  stands_at : Lawful A → (c : CoreState V) (s : ℕ) (i : Item V) (b : ℕ) → b < suc N.arcs → (t : Token V) → c.token b ≡ t → 0 < total (at_place N place (marks A s i)) (item_of b t) → Stands c s i
  stands_at L c s i b lt Idle e h = absurd (omega (arith, h))
  stands_at L c s i b lt Held e h = absurd (omega (arith, h))
  stands_at L c s i b lt (Message x) e h =
      let m = marks_true A L s i (place (N.head b)) (MessageOn b x) (omega (arith, h)) in
      subst (λ j. Stands c s j) m.1 (record { real = lt; here = m.0; token = ap (item_of b) e })
  stands_at L c s i b lt Signal e h =
      let m = marks_true A L s i (place (N.tail b)) (SignalOn b) (omega (arith, h)) in
      subst (λ j. Stands c s j) m.1 (record { real = lt; here = m.0; token = ap (item_of b) e })

  -- what the state does where a part with the tables d takes an item
  pub record Event1 (s : ℕ) (c d : CoreState V) (i : Item V) : Type 0 where
    pub enabled : is_enabled c (event_of i) ≡ true
    pub agree : Agree A N (mine place s) (step A N c (event_of i)) (taken A N i d)
    pub weighs : (h : ℕ → Item V → ℕ) → in_flight N place (step A N c (event_of i)) h + at_place N place h i ≡ in_flight N place c h + total (at_place N place h) (made A N i d)
    pub frame : (r : ℕ) → r ≢ s → Agree A N (mine place r) c (step A N c (event_of i))

  other_shard : (s r v : ℕ) → place v ≡ s → r ≢ s → mine place r v ≡ false
  other_shard s r v e n = ne_eqb (place v) r (λ q. n (sym q ∙ e))

  pub event_made : Lawful A → WellFormed N → (s : ℕ) (c d : CoreState V) (i : Item V) → CoreInvariant A N 0 c → Agree A N (mine place s) c d → Stands c s i → Event1 s c d i
  event_made L W s c d (MessageOn a x) K G T =
      let q : c.token a ≡ Message x = token_told A N a x [] (c.token a) T.token in
      let m : mine place s (N.head a) ≡ true = eq-eqb (place (N.head a)) s T.here in
      let hn = head_real A N W 0 a c K (λ z. let g = q in cc) in
      let O = outgoing_is A N W (N.head a) hn in
      let same : made A N (MessageOn a x) d ≡ item_of a (answer_to (c.engager (N.head a))) ++ settle_made A N (N.head a) (arrive A N a x c) (outgoing N (N.head a)) = λ k.
      item_of a (answer_to {V = V} (G.engager (N.head a) m k))
      ++ settle_made_agree A N (mine place s) (N.head a) (arrive A N a x c) (arrive_here A N a x d) m
      (arrive_here_agree A N (mine place s) a x c d m q G) (outgoing N (N.head a)) O k in
      record {
        enabled = ap is_message q;
        agree = message_here A N L W (mine place s) a x c d m q K G;
        weighs = λ h. message_weighs A N place L W a x c h T.real hn q K ∙ ap (λ zs. in_flight N place c h + total (at_place N place h) zs) (sym same);
        frame = λ r n. message_frame A N L W (mine place r) a x c (other_shard s r (N.head a) T.here n) q K;
      }
  event_made L W s c d (SignalOn a) K G T =
      let q : c.token a ≡ Signal = token_back A N a [] (c.token a) T.token in
      let m : mine place s (N.tail a) ≡ true = eq-eqb (place (N.tail a)) s T.here in
      record {
        enabled = ap is_signal q;
        agree = signal_here A N L W (mine place s) a c d m q K G;
        weighs = λ h. weigh a q m T.real h;
        frame = λ r n. signal_frame A N L W (mine place r) a c (other_shard s r (N.tail a) T.here n) q K;
      }
    where
      weigh : (b : ℕ) → c.token b ≡ Signal → mine place s (N.tail b) ≡ true → b < suc N.arcs → (h : ℕ → Item V → ℕ) →
          in_flight N place (step A N c (Accept b)) h + at_place N place h (SignalOn b) ≡ in_flight N place c h + total (at_place N place h) (made A N (SignalOn b) d)
      weigh zero q m lt h = last_weighs A N place L W c h q K
      weigh (suc k) q m lt h =
          let tn : N.tail (suc k) ≢ 0 = λ z. (let idle = K.neutral_idle (suc k) (λ y. omega (arith, y)) (ap c.engager z ∙ K.env_neutral) in let g = sym q ∙ idle in cc) in
          let O = outgoing_is A N W (N.tail (suc k)) tn in
          let same : made A N (SignalOn (suc k)) d ≡ made A N (SignalOn (suc k)) c = settle_made_agree A N (mine place s) (N.tail (suc k))
          (freed A N (suc k) c) (freed A N (suc k) d) m (freed_agree A N (mine place s) (suc k) c d G) (outgoing N (N.tail (suc k))) O in
          signal_weighs A N place L W k c h lt tn q K ∙ ap (λ zs. in_flight N place c h + total (at_place N place h) zs) (sym same)

module _ {S V : Type 0} (A : Algebra V) (N : Network) (place : ℕ → ℕ) where
  pub item_stands : Lawful A → (c : CoreState V) (p : PartData S V) (i : Item V) (rest : List (Item V)) → HoldsShareIn A N place c p → IsPermutation p.queue (i ∷ rest) → Stands A N place c p.shard i
  item_stands L c p i rest H e =
      let w = H.weighs (marks A p.shard i) in
      let q : total (marks A p.shard i p.shard) p.queue ≡ marks A p.shard i p.shard i + total (marks A p.shard i p.shard) rest = total_permutation (marks A p.shard i p.shard) p.queue (i ∷ rest) e in
      let one = marks_self A L p.shard i in
      let r = sum_member (λ b. total (at_place N place (marks A p.shard i)) (item_of b (c.token b))) (suc N.arcs) (omega (arith, w, q, one)) in
      stands_at A N place L c p.shard i r.0 r.1 (c.token r.0) refl r.2

  -- what the part's lists weigh afterwards
  pub handled_weighs : (p : PartData S V) (i : Item V) (q : PartData S V) → ((v : ℕ) → place v < length p.outs) → HandledItemIn A N place p i q → (h : ℕ → Item V → ℕ) →
      part_weight h q + h p.shard i ≡ part_weight h p + total (at_place N place h) (made A N i (state_in p))
  handled_weighs p i q wide T h =
      let r = (routed N place p.shard (made A N i (state_in p)) (record { queue = T.rest; outs = p.outs }) wide).weighs h in
      let l = ap (channels_weight p.shard h) T.channels in
      let s = ap (λ z. channels_weight z h (channels_of q)) T.shard in
      let f = total_permutation (h p.shard) p.queue (i ∷ T.rest) T.left in
      omega (arith, r, l, s, f)

  -- ONE PART: for every kept state of which it holds its share
  pub record TakenEvent (c : CoreState V) (p : PartData S V) (i : Item V) (q : PartData S V) : Type 0 where
    pub enabled : is_enabled c (event_of i) ≡ true
    pub holds : HoldsShareIn A N place (step A N c (event_of i)) q
    pub others : (r : PartData S V) → r.shard ≢ p.shard → HoldsTables A N place c r → HoldsTables A N place (step A N c (event_of i)) r
    pub weighs : (h : ℕ → Item V → ℕ) → part_weight h q + in_flight N place c h ≡ part_weight h p + in_flight N place (step A N c (event_of i)) h

  pub handled_event : Lawful A → WellFormed N → (c : CoreState V) (p : PartData S V) (i : Item V) (q : PartData S V) → CoreInvariant A N 0 c
      → HoldsShareIn A N place c p → HandledItemIn A N place p i q → TakenEvent c p i q
  handled_event L W c p i q K H T =
      let F = item_stands L c p i T.rest H T.left in
      let E = event_made A N place L W p.shard c (state_in p) i K H.tables.agree F in
      let balance : (h : ℕ → Item V → ℕ) → part_weight h q + in_flight N place c h ≡ part_weight h p + in_flight N place (step A N c (event_of i)) h =
      λ h. (let a = E.weighs h in let b = handled_weighs p i q H.tables.wide T h in
      let e : at_place N place h i ≡ h p.shard i = ap (λ z. h z i) F.here in
      omega (arith, a, b, e)) in
      let long : length q.outs ≡ length p.outs = ap (λ l. length l.outs) T.channels
      ∙ (routed N place p.shard (made A N i (state_in p)) (record { queue = T.rest; outs = p.outs }) H.tables.wide).long in
      record {
        enabled = E.enabled;
        holds = record {
          tables = record {
            agree = subst (λ s. Agree A N (mine place s) (step A N c (event_of i)) (state_in q)) (sym T.shard)
                (agree_then A N (mine place p.shard) (step A N c (event_of i)) (taken A N i (state_in p)) (state_in q) E.agree T.tables);
            wide = λ v. let w = H.tables.wide v in omega (arith, w, long);
          };
          weighs = λ h. let b : part_weight h q + in_flight N place c h ≡ part_weight h p + in_flight N place (step A N c (event_of i)) h = balance h in let w = H.weighs h in omega (arith, b, w);
        };
        others = λ r n G. record { agree = agree_then A N (mine place r.shard) (step A N c (event_of i)) c (state_in r) (agree_back' r (E.frame r.shard n)) G.agree; wide = G.wide };
        weighs = balance;
      }
    where
      agree_back' : (r : PartData S V) → Agree A N (mine place r.shard) c (step A N c (event_of i)) → Agree A N (mine place r.shard) (step A N c (event_of i)) c
      agree_back' r G = record { label = λ v m. sym (G.label v m); engager = λ v m. sym (G.engager v m); told = λ b m. sym (G.told b m); idle = λ b m. sym (G.idle b m) }

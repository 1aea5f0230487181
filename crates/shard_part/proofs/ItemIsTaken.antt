-- What the moves do with the item whose turn it is is one item taken.
use Rattle.shard_part.proofs.Words.{◌≡◌, ◌≢◌, ℕ, zero, suc, ◌<◌, ◌≤◌, Bool, true, false, cond, Option, Some, None, List, [], ◌∷◌, ◌++◌, length, set, get_or, refl, sym, ap, ◌∙◌, subst, inl, inr, arith, length-set, get_or-set_same, get_or-set_other, eqb-true, eq-eqb, Contains, cond-true, cond-false, IsPermutation, Idle, Item, MessageOn, SignalOn, Algebra, Lawful, Network, WellFormed, item_arc, item_of, pump_made, settle_made, IsDistinct, IsOutList, counted_on, top, PartData, state_in, token_if, mine, vertex_of, IsArc, SetupData, network_of, place_in, IsPlanned, Channels, channels_of, message_weight, signal_weight, total, routes, route, arrive_here, settle_here, taken, made, IsInTurn, HandledItemIn, outgoing, Room, Rows, OwnIdleIsTold, table_long, not_in_empty, here_as, head_or_tail, IsFit}
use Rattle.scholten_core.specs.Diffusion.{CoreState, put, is_idle, is_due, improves, better_of, engaged_by, answer_to, freed}
use Rattle.scholten_core.proofs.Basics.{put_tells, due_tells, put_set}
use Rattle.shard_part.specs.Moves.{RepInvariant, IsPopped, engaged_or_answered, offered, offered_all, rested, with_value, with_free, with_taken}
use Rattle.shard_part.proofs.InFlight.{outgoing_is}
use Rattle.shard_part.proofs.Moves.{formed}
use Rattle.shard_part.proofs.Graphs.{head_of_arc, head_of_entry, tail_of_arc, tail_of_entry}
use Rattle.shard_part.proofs.Pumping.{offered_none}
use Rattle.scholten_core.proofs.Quick.{HasTold, quiet_signal, made_nothing, made_alone}
use Rattle.shard_part.proofs.Quick.{quiet_message}
use Rattle.shard_part.proofs.OffersArePumped.{counted_none, counted_top}
use Rattle.shard_part.proofs.VertexSettles.{Made, settles, made_after}

pub stored_fit : {S V : Type 0} (p : PartData S V) (r : Rows V) (n : Room) (ns : List ℕ) → RepInvariant p r n ns → IsFit p
stored_fit p r n ns D = record {
  labels = table_long _ r.labels p.labels None (suc p.setup.diffusion.roads.vertices) D.seen.labels;
  engagers = table_long _ r.engagers p.engagers None (suc p.setup.diffusion.roads.vertices) D.seen.engagers;
  busy = table_long _ r.busy p.busy false (suc (length p.setup.diffusion.roads.arcs)) D.seen.busy;
  told = table_long _ r.told p.told None (suc (length p.setup.diffusion.roads.arcs)) D.seen.told;
  sent = D.tallied.0;
  delivered = D.tallied.1;
  signalled = D.tallied.2;
  accepted = D.tallied.3;
}

pub unchanged : {X : Type 0} (f : ℕ → X) (v : ℕ) (x : X) → f v ≡ x → f ≡ put f v x
unchanged f v x e = λ i b. (elim (put_tells f v x b) as (λ _. f b ≡ put f v x b) [ inl k ↦ ap f k.0 ∙ e ∙ sym k.1 | inr k ↦ sym k.1 ]) i

module _ {V : Type 0} (A : Algebra V) where
  -- an arc that is not listed is not due
  others_quiet : Lawful A → (N : Network) (v : ℕ) (d : CoreState V) (xs : List ℕ) → IsOutList A N v xs → (b : ℕ) → (Contains xs b → ⊥) → is_due A N v d b ≡ false
  others_quiet L N v d xs O b n = elim (due_tells A N L v d b) [ inl k ↦ absurd (n (O.all b k.1)) | inr k ↦ k.0 ]

  answer_told : (a : ℕ) (o : Option ℕ) → total message_weight (item_of {V = V} a (answer_to o)) ≡ 0
  answer_told a None = refl
  answer_told a (Some e) = refl

module _ {S V : Type 0} where
  -- the ends of an arc are vertices
  pub head_within : (p : PartData S V) → IsPlanned p.setup p.shard → (a : ℕ) → IsArc (network_of p.setup) a → (network_of p.setup).head a ≤ p.setup.diffusion.roads.vertices
  head_within p P zero r = let e = head_of_entry p.setup P.source in let s = P.source.1 in omega (arith, e, s)
  head_within p P (suc k) r = (head_of_arc p.setup P.roads (suc k) (λ z. omega (arith, z)) r).2

  pub tail_within : (p : PartData S V) → IsPlanned p.setup p.shard → (a : ℕ) → IsArc (network_of p.setup) a → (network_of p.setup).tail a ≤ p.setup.diffusion.roads.vertices
  tail_within p P zero r = let e = tail_of_entry p.setup in omega (arith, e)
  tail_within p P (suc k) r = (tail_of_arc p.setup P.roads (suc k) (λ z. omega (arith, z)) r).2

module _ {S V : Type 0} (A : Algebra V) where
  pub has_told : (p : PartData S V) → OwnIdleIsTold p → HasTold A (network_of p.setup) (mine (place_in p.setup) p.shard) 0 (state_in p)
  has_told p T b m n k i = T b (eqb-true _ _ m) n i

  -- the arcs out of a vertex are within the tables
  out_within : (p : PartData S V) → WellFormed (network_of p.setup) → IsFit p → (v : ℕ) → v ≢ 0 → (b : ℕ) → Contains (outgoing (network_of p.setup) v) b → (b < length p.told) × (b < length p.busy)
  out_within p W F v n b l =
      let t : (network_of p.setup).tail b ≡ v = (outgoing_is A (network_of p.setup) W v n).only b l in
      let r : b ≤ length p.setup.diffusion.roads.arcs = W.real b (λ z. n (sym t ∙ z)) in
      let e = F.told in
      let f = F.busy in
      (omega (arith, r, e), omega (arith, r, f))

  -- the message has arrived and was answered; then the head settles
  arrived : Lawful A → (p : PartData S V) (a : ℕ) (x : V) (o : Option ℕ) (ls : List (Option V)) (es : List (Option ℕ)) (qs : List (Item V)) (os : List (List (Item V))) (m : ℕ) (xs : List ℕ) →
      IsFit p → m ≤ top → (network_of p.setup).head a < length es → (state_in p).engager ((network_of p.setup).head a) ≡ o →
      (λ j. get_or ls j None) ≡ put (state_in p).label ((network_of p.setup).head a) (better_of A x ((state_in p).label ((network_of p.setup).head a))) →
      (λ j. get_or es j None) ≡ put (state_in p).engager ((network_of p.setup).head a) (engaged_by o a) →
      record { queue = qs; outs = os } ≡ routes (network_of p.setup) (place_in p.setup) p.shard (item_of {V = V} a (answer_to o)) (channels_of p) →
      m ≡ counted_on (total signal_weight (item_of {V = V} a (answer_to o))) p.signalled →
      IsDistinct A (network_of p.setup) xs → ((b : ℕ) → Contains xs b → (b < length p.told) × (b < length p.busy)) →
      ((b : ℕ) → (Contains xs b → ⊥) → is_due A (network_of p.setup) ((network_of p.setup).head a) (arrive_here A (network_of p.setup) a x (state_in p)) b ≡ false) →
      pump_made A (network_of p.setup) ((network_of p.setup).head a) (arrive_here A (network_of p.setup) a x (state_in p)) (outgoing (network_of p.setup) ((network_of p.setup).head a))
      ≡ pump_made A (network_of p.setup) ((network_of p.setup).head a) (arrive_here A (network_of p.setup) a x (state_in p)) xs →
      Made A (taken A (network_of p.setup) (MessageOn a x) (state_in p)) (made A (network_of p.setup) (MessageOn a x) (state_in p)) p
      (rested A ((network_of p.setup).head a) (offered_all A ((network_of p.setup).head a) xs (record p { labels = ls; engagers = es; queue = qs; outs = os; signalled = m })))
  arrived L p a x o ls es qs os m xs F top_m long e label engager channels back D within quiet same =
      let N = network_of p.setup in
      let v = (network_of p.setup).head a in
      let p2 : PartData S V = record p { labels = ls; engagers = es; queue = qs; outs = os; signalled = m } in
      let q : PartData S V = rested A ((network_of p.setup).head a) (offered_all A ((network_of p.setup).head a) xs (record p { labels = ls; engagers = es; queue = qs; outs = os; signalled = m })) in
      let engages_or_answers : (λ j. get_or es j None) ≡ put (state_in p).engager ((network_of p.setup).head a) (engaged_by ((state_in p).engager ((network_of p.setup).head a)) a) =
      engager ∙ ap (λ u. put (state_in p).engager ((network_of p.setup).head a) (engaged_by u a)) (sym e) in
      let here : state_in p2 ≡ arrive_here A N a x (state_in p) = λ i. record { label = label i; engager = engages_or_answers i; token = (state_in p).token; told = (state_in p).told } in
      let R = settles A v xs (outgoing N v) p2 F.sent top_m long D within
      (subst (λ d. (b : ℕ) → (Contains xs b → ⊥) → is_due A N v d b ≡ false) (sym here) quiet)
      (subst (λ d. pump_made A N v d (outgoing N v) ≡ pump_made A N v d xs) (sym here) same) in
      let T : Made A (settle_here A N v (arrive_here A N a x (state_in p))) (settle_made A N v (arrive_here A N a x (state_in p)) (outgoing N v)) p2 q =
      subst (λ d. Made A (settle_here A N v d) (settle_made A N v d (outgoing N v)) p2 q) here R in
      subst (λ u. Made A (taken A N (MessageOn a x) (state_in p)) (item_of a (answer_to u) ++ settle_made A N v (arrive_here A N a x (state_in p)) (outgoing N v)) p q) (sym e)
      (made_after A (taken A N (MessageOn a x) (state_in p)) (item_of a (answer_to o)) (settle_made A N v (arrive_here A N a x (state_in p)) (outgoing N v)) p q ls es qs os p.sent m channels
      (sym (counted_none p.sent F.sent) ∙ ap (λ k. counted_on k p.sent) (sym (answer_told A a o))) back T)

  pub message_taken : Lawful A → (p : PartData S V) (a : ℕ) (x : V) → WellFormed (network_of p.setup) → IsFit p → OwnIdleIsTold p → place_in p.setup ((network_of p.setup).head a) ≡ p.shard →
      (network_of p.setup).head a ≢ 0 → (network_of p.setup).head a ≤ p.setup.diffusion.roads.vertices →
      Made A (taken A (network_of p.setup) (MessageOn a x) (state_in p)) (made A (network_of p.setup) (MessageOn a x) (state_in p)) p (with_value A a x ((network_of p.setup).head a) p)
  message_taken L p a x W F T here n within = go (improves A x ((state_in p).label v)) refl ((state_in p).engager v) refl
    where
      N : Network
      N = network_of p.setup

      v : ℕ
      v = (network_of p.setup).head a

      O : IsOutList A N v (outgoing N v)
      O = outgoing_is A N W v n

      long_l : v < length p.labels
      long_l = let e = F.labels in omega (arith, e, within)

      long_e : v < length p.engagers
      long_e = let e = F.engagers in omega (arith, e, within)

      worse : improves A x ((state_in p).label v) ≡ false → better_of A x ((state_in p).label v) ≡ (state_in p).label v
      worse t = cond-false _ _ _ t

      quiet : improves A x ((state_in p).label v) ≡ false → (b : ℕ) → is_due A N v (arrive_here A N a x (state_in p)) b ≡ false
      quiet t = quiet_message A N L (mine (place_in p.setup) p.shard) a x (state_in p) (eq-eqb _ _ here) n (has_told p T) (worse t)

      new_label : improves A x ((state_in p).label v) ≡ true → (λ j. get_or (set p.labels v (Some x)) j None) ≡ put (state_in p).label v (better_of A x ((state_in p).label v))
      new_label t = put_set p.labels v (Some x) None long_l ∙ ap (put (state_in p).label v) (sym (cond-true _ _ _ t))

      old_label : improves A x ((state_in p).label v) ≡ false → (λ j. get_or p.labels j None) ≡ put (state_in p).label v (better_of A x ((state_in p).label v))
      old_label t = unchanged (state_in p).label v (better_of A x ((state_in p).label v)) (sym (worse t))

      answered : Channels V
      answered = route N (place_in p.setup) p.shard (SignalOn a) (channels_of p)

      go : (t : Bool) → improves A x ((state_in p).label v) ≡ t → (o : Option ℕ) → (state_in p).engager v ≡ o →
          Made A (taken A N (MessageOn a x) (state_in p)) (made A N (MessageOn a x) (state_in p)) p
          (rested A v (cond t (offered_all A v (outgoing N v) (engaged_or_answered a v o (cond t (record p { labels = set p.labels v (Some x) }) p)))
          (engaged_or_answered a v o (cond t (record p { labels = set p.labels v (Some x) }) p))))
      go true t None e = arrived L p a x None (set p.labels v (Some x)) (set p.engagers v (Some a)) p.queue p.outs p.signalled (outgoing N v) F F.signalled
          (let l = length-set p.engagers v (Some a) in omega (arith, l, long_e)) e (new_label t) (put_set p.engagers v (Some a) None long_e) refl (sym (counted_none p.signalled F.signalled))
          O.distinct (out_within p W F v n) (others_quiet A L N v (arrive_here A N a x (state_in p)) (outgoing N v) O) refl
      go true t (Some f) e = arrived L p a x (Some f) (set p.labels v (Some x)) p.engagers answered.queue answered.outs (counted_on 1 p.signalled) (outgoing N v) F (counted_top 1 p.signalled)
          long_e e (new_label t) (unchanged (state_in p).engager v (Some f) e) refl refl
          O.distinct (out_within p W F v n) (others_quiet A L N v (arrive_here A N a x (state_in p)) (outgoing N v) O) refl
      go false t None e = subst (λ u. Made A (taken A N (MessageOn a x) (state_in p)) (made A N (MessageOn a x) (state_in p)) p (rested A v u))
          (offered_none A v (record p { engagers = set p.engagers v (Some a) }))
          (arrived L p a x None p.labels (set p.engagers v (Some a)) p.queue p.outs p.signalled [] F F.signalled
          (let l = length-set p.engagers v (Some a) in omega (arith, l, long_e)) e (old_label t) (put_set p.engagers v (Some a) None long_e) refl (sym (counted_none p.signalled F.signalled))
          tt (λ b l. absurd (not_in_empty b l)) (λ b _. quiet t b) (made_nothing A N v (arrive_here A N a x (state_in p)) (outgoing N v) (λ b _. quiet t b)))
      go false t (Some f) e = subst (λ u. Made A (taken A N (MessageOn a x) (state_in p)) (made A N (MessageOn a x) (state_in p)) p (rested A v u))
          (offered_none A v (record p { queue = answered.queue; outs = answered.outs; signalled = counted_on 1 p.signalled }))
          (arrived L p a x (Some f) p.labels p.engagers answered.queue answered.outs (counted_on 1 p.signalled) [] F (counted_top 1 p.signalled)
          long_e e (old_label t) (unchanged (state_in p).engager v (Some f) e) refl refl
          tt (λ b l. absurd (not_in_empty b l)) (λ b _. quiet t b) (made_nothing A N v (arrive_here A N a x (state_in p)) (outgoing N v) (λ b _. quiet t b)))

  offered_alone : (v b : ℕ) (p : PartData S V) → offered_all A v (b ∷ []) p ≡ offered A v b p
  unfolding offered_all
  offered_alone v b p = refl

  free_is : (p : PartData S V) (a : ℕ) → a < length p.busy → state_in (record p { busy = set p.busy a false }) ≡ freed A (network_of p.setup) a (state_in p)
  free_is p a l = λ i. record {
    label = (state_in p).label;
    engager = (state_in p).engager;
    token = λ b. (elim (put_tells (state_in p).token a Idle b) as (λ _. token_if {V = V} (get_or (set p.busy a false) b false) ≡ put (state_in p).token a Idle b) [
      | inl k ↦ ap (λ (w : ℕ). token_if {V = V} (get_or (set p.busy a false) w false)) k.0 ∙ ap token_if (get_or-set_same p.busy a false false l) ∙ sym k.1
      | inr k ↦ ap token_if (get_or-set_other p.busy a b false false k.0) ∙ sym k.1
    ]) i;
    told = (state_in p).told;
  }

  pub signal_taken : Lawful A → (p : PartData S V) (a : ℕ) → WellFormed (network_of p.setup) → IsFit p → OwnIdleIsTold p → place_in p.setup ((network_of p.setup).tail a) ≡ p.shard →
      (a ≢ 0 → (network_of p.setup).tail a ≢ 0) → (network_of p.setup).tail a ≤ p.setup.diffusion.roads.vertices →
      Made A (taken A (network_of p.setup) (SignalOn a) (state_in p)) (made A (network_of p.setup) (SignalOn a) (state_in p)) p (with_free A a ((network_of p.setup).tail a) p)
  signal_taken L p zero W F T here n within =
      let e = free_is p 0 (let b = F.busy in omega (arith, b)) in record {
        setup = refl;
        shard = refl;
        tables = record { label = λ v _. refl; engager = λ v _. refl; told = λ b _. refl; idle = λ b _. ap (λ d. is_idle (d.token b)) e };
        channels = refl;
        sent = sym (counted_none p.sent F.sent);
        signalled = sym (counted_none p.signalled F.signalled);
        delivered = refl;
        accepted = refl;
      }
  signal_taken L p (suc k) W F T here n within =
      let N = network_of p.setup in
      let v = (network_of p.setup).tail (suc k) in
      let nz : (network_of p.setup).tail (suc k) ≢ 0 = n (λ z. omega (arith, z)) in
      let O = outgoing_is A N W v nz in
      let p1 : PartData S V = record p { busy = set p.busy (suc k) false } in
      let in_busy : suc k < length p.busy = (out_within p W F v nz (suc k) (O.all (suc k) refl)).1 in
      let in_told : suc k < length p.told = (out_within p W F v nz (suc k) (O.all (suc k) refl)).0 in
      let e = free_is p (suc k) in_busy in
      let quiet : (b : ℕ) → b ≢ suc k → is_due A N v (freed A N (suc k) (state_in p)) b ≡ false = quiet_signal A N L (mine (place_in p.setup) p.shard)
      (suc k) (state_in p) (eq-eqb _ _ here) nz (has_told p T) in
      let R = settles A v (suc k ∷ []) (outgoing N v) p1 F.sent F.signalled (let l = F.engagers in omega (arith, l, within)) (not_in_empty (suc k), tt)
      (λ b l. elim (head_or_tail (suc k) b [] l) [ inl q ↦ (let s = length-set p.busy (suc k) false in (omega (arith, q, in_told), omega (arith, q, s, in_busy))) | inr z ↦ absurd (not_in_empty b z) ])
      (subst (λ s. (b : ℕ) → (Contains (suc k ∷ []) b → ⊥) → is_due A N v s b ≡ false) (sym e) (λ b m. quiet b (λ q. m (here_as b (suc k) [] q))))
      (subst (λ s. pump_made A N v s (outgoing N v) ≡ pump_made A N v s (suc k ∷ [])) (sym e)
      (made_alone A N v (suc k) (freed A N (suc k) (state_in p)) (outgoing N v) O.distinct (O.all (suc k) refl) quiet)) in
      let M : Made A (settle_here A N v (freed A N (suc k) (state_in p))) (settle_made A N v (freed A N (suc k) (state_in p)) (outgoing N v)) p1 (rested A v (offered_all A v (suc k ∷ []) p1)) =
      subst (λ s. Made A (settle_here A N v s) (settle_made A N v s (outgoing N v)) p1 (rested A v (offered_all A v (suc k ∷ []) p1))) e R in
      let Q : Made A (settle_here A N v (freed A N (suc k) (state_in p))) (settle_made A N v (freed A N (suc k) (state_in p)) (outgoing N v)) p1 (rested A v (offered A v (suc k) p1)) =
      subst (λ u. Made A (settle_here A N v (freed A N (suc k) (state_in p))) (settle_made A N v (freed A N (suc k) (state_in p)) (outgoing N v)) p1 (rested A v u)) (offered_alone v (suc k) p1) M in
      record { setup = Q.setup; shard = Q.shard; tables = Q.tables; channels = Q.channels; sent = Q.sent; signalled = Q.signalled; delivered = Q.delivered; accepted = Q.accepted }

  -- with the item taken off and counted
  counted_fit : (p : PartData S V) (zs : List (Item V)) (d a : ℕ) → IsFit p → d ≤ top → a ≤ top → IsFit (record p { queue = zs; delivered = d; accepted = a })
  counted_fit p zs d a F l m = record {
    labels = F.labels;
    engagers = F.engagers;
    busy = F.busy;
    told = F.told;
    sent = F.sent;
    delivered = l;
    signalled = F.signalled;
    accepted = m;
  }

  handled_as : (p q : PartData S V) (i : Item V) (zs : List (Item V)) (d a : ℕ) → IsPermutation p.queue (i ∷ zs) → IsInTurn A (network_of p.setup) p.setup.order (state_in p) p.queue i zs
      → d ≡ counted_on (message_weight i) p.delivered → a ≡ counted_on (signal_weight i) p.accepted
      → Made A (taken A (network_of p.setup) i (state_in p)) (made A (network_of p.setup) i (state_in p)) (record p { queue = zs; delivered = d; accepted = a }) q
      → HandledItemIn A (network_of p.setup) (place_in p.setup) p i q
  handled_as p q i zs d a left in_turn e f M = record {
    rest = zs;
    left = left;
    in_turn = in_turn;
    setup = M.setup;
    shard = M.shard;
    tables = record { label = λ v _. M.tables.label v refl; engager = λ v _. M.tables.engager v refl; told = λ b _. M.tables.told b refl; idle = λ b _. M.tables.idle b refl };
    channels = M.channels;
    sent = M.sent;
    signalled = M.signalled;
    delivered = M.delivered ∙ e;
    accepted = M.accepted ∙ f;
  }

  -- the item i is taken, with zs after it
  pub handled : Lawful A → (p : PartData S V) (i : Item V) (zs : List (Item V)) → IsPlanned p.setup p.shard → IsFit p → OwnIdleIsTold p → IsPermutation p.queue (i ∷ zs) → IsInTurn A (network_of p.setup) p.setup.order (state_in p) p.queue i zs → IsArc (network_of p.setup) (item_arc i) →
      place_in p.setup (vertex_of (network_of p.setup) i) ≡ p.shard → HandledItemIn A (network_of p.setup) (place_in p.setup) p i (with_taken A i (record p { queue = zs }))
  handled L p (MessageOn a x) zs P F T left in_turn r here = handled_as p _ (MessageOn a x) zs (counted_on 1 p.delivered) p.accepted left in_turn refl (sym (counted_none p.accepted F.accepted))
      (message_taken L (record p { queue = zs; delivered = counted_on 1 p.delivered }) a x (formed p p.shard P) (counted_fit p zs (counted_on 1 p.delivered) p.accepted F (counted_top 1 p.delivered) F.accepted)
      T here r.0 (head_within p P a r))
  handled L p (SignalOn a) zs P F T left in_turn r here = handled_as p _ (SignalOn a) zs p.delivered (counted_on 1 p.accepted) left in_turn (sym (counted_none p.delivered F.delivered)) refl
      (signal_taken L (record p { queue = zs; accepted = counted_on 1 p.accepted }) a (formed p p.shard P) (counted_fit p zs p.delivered (counted_on 1 p.accepted) F F.delivered (counted_top 1 p.accepted))
      T here r.1 (tail_within p P a r))

  -- the front item was taken off the queue, and did what it does
  pub popped_taken : Lawful A → (p m q : PartData S V) (i : Item V) → IsPlanned p.setup p.shard → IsFit p → OwnIdleIsTold p → IsPopped A p m i
      → q ≡ with_taken A i m → HandledItemIn A (network_of p.setup) (place_in p.setup) p i q
  popped_taken L p m q i P F T O e =
      let s : m.setup ≡ p.setup = ap (λ (u : PartData S V). u.setup) O.same in
      let z : m.shard ≡ p.shard = ap (λ (u : PartData S V). u.shard) O.same in
      let r : IsArc (network_of p.setup) (item_arc i) = subst (λ (t : SetupData S). IsArc (network_of t) (item_arc i)) s O.arc in
      let here : place_in p.setup (vertex_of (network_of p.setup) i) ≡ p.shard = subst (λ (t : SetupData S). place_in t (vertex_of (network_of t) i) ≡ p.shard) s (O.here ∙ z) in
      subst (HandledItemIn A (network_of p.setup) (place_in p.setup) p i) (ap (with_taken A i) (sym O.same) ∙ sym e) (handled L p i m.queue P F T O.left O.in_turn r here)

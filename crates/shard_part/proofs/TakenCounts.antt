-- Items that a part takes are events of each state of which it holds its share, and its counters
-- count what these events do.
use Rattle.shard_part.proofs.Words.{◌≡◌, ℕ, suc, ◌+◌, ◌≤◌, true, List, [], ◌∷◌, ◌++◌, length, map, refl, sym, ap, ◌∙◌, subst, arith, cond-true, Token, Idle, Message, Held, Signal, Item, MessageOn, SignalOn, Event, Algebra, Lawful, Network, WellFormed, CoreState, step, run_from, opening, state_after, count_enabled, is_enabled, is_message, is_signal, sum_below, one_if, item_of, CoreInvariant, step_kept, run_kept, opening_kept, counted_on, top, PartData, state_in, event_of, SetupData, network_of, place_in, total, message_weight, signal_weight, in_flight, part_weight, made, HandledItemIn, HandledAll}
use Rattle.scholten_core.specs.Accounts.{count_sent, count_signalled, is_delivery, is_acceptance, sent_total, delivered_total, signalled_total, accepted_total}
use Rattle.scholten_core.proofs.Counts.{accounts}
use Rattle.shard_part.specs.Represents.{HoldsShareIn, HoldsShare, core_of}
use Rattle.shard_part.specs.Moves.{IsTallied}
use Rattle.shard_part.specs.Part.{HandledMany, IsRunOn}
use Rattle.shard_part.proofs.TakenIsEvent.{handled_event, handled_weighs}
use Rattle.shard_part.proofs.OffersArePumped.{counted_none, counted_more, counted_top}
use Rattle.scholten_core.proofs.Basics.{sum_same}

module _ {V : Type 0} (N : Network) (place : ℕ → ℕ) where
  -- the messages under way are those that stand, and so are the signals
  in_flight_told : (c : CoreState V) → in_flight N place c (λ _. message_weight) ≡ sum_below (λ b. one_if (is_message (c.token b))) (suc N.arcs)
  in_flight_told c = sum_same _ _ (suc N.arcs) (λ b. one b (c.token b))
    where
      one : (b : ℕ) (t : Token V) → total message_weight (item_of b t) ≡ one_if (is_message t)
      one b Idle = refl
      one b (Message x) = refl
      one b Held = refl
      one b Signal = refl

  in_flight_back : (c : CoreState V) → in_flight N place c (λ _. signal_weight) ≡ sum_below (λ b. one_if (is_signal (c.token b))) (suc N.arcs)
  in_flight_back c = sum_same _ _ (suc N.arcs) (λ b. one b (c.token b))
    where
      one : (b : ℕ) (t : Token V) → total signal_weight (item_of b t) ≡ one_if (is_signal t)
      one b Idle = refl
      one b (Message x) = refl
      one b Held = refl
      one b Signal = refl

module _ {V : Type 0} (A : Algebra V) (N : Network) where
  told_if : (c : CoreState V) (i : Item V) → is_enabled c (event_of i) ≡ true → message_weight i ≡ one_if (is_delivery A N c (event_of i))
  told_if c (MessageOn a x) e = ap one_if (sym e)
  told_if c (SignalOn a) e = refl

  back_if : (c : CoreState V) (i : Item V) → is_enabled c (event_of i) ≡ true → signal_weight i ≡ one_if (is_acceptance A N c (event_of i))
  back_if c (MessageOn a x) e = refl
  back_if c (SignalOn a) e = ap one_if (sym e)

  pub run_append : (c : CoreState V) (es fs : List Event) → run_from A N c (es ++ fs) ≡ run_from A N (run_from A N c es) fs
  run_append c [] fs = refl
  run_append c (e ∷ es) fs = run_append (step A N c e) es fs

module _ {S V : Type 0} (A : Algebra V) (N : Network) (place : ℕ → ℕ) where
  -- the counts of one item are those of its event
  pub record Counts (c : CoreState V) (i : Item V) (p : PartData S V) : Type 0 where
    pub sent : total message_weight (made A N i (state_in p)) ≡ count_sent A N c (step A N c (event_of i))
    pub signalled : total signal_weight (made A N i (state_in p)) ≡ count_signalled A N c (step A N c (event_of i))
    pub delivered : message_weight i ≡ one_if (is_delivery A N c (event_of i))
    pub accepted : signal_weight i ≡ one_if (is_acceptance A N c (event_of i))

  pub counts : Lawful A → WellFormed N → (c : CoreState V) (p : PartData S V) (i : Item V) (q : PartData S V) → CoreInvariant A N 0 c → HoldsShareIn A N place c p → HandledItemIn A N place p i q → Counts c i p
  counts L W c p i q K H T =
      let E = handled_event A N place L W c p i q K H T in
      let R = accounts A N L W c (event_of i ∷ []) K in
      let d = told_if A N c i E.enabled in
      let s = back_if A N c i E.enabled in
      record {
        sent = (let w = handled_weighs A N place p i q H.tables.wide T (λ _. message_weight) in
            let b = E.weighs (λ _. message_weight) in let r = R.messages in let f = in_flight_told N place c in
            let g = in_flight_told N place (step A N c (event_of i)) in omega (arith, w, b, r, f, g, d));
        signalled = (let w = handled_weighs A N place p i q H.tables.wide T (λ _. signal_weight) in
            let b = E.weighs (λ _. signal_weight) in let r = R.signals in let f = in_flight_back N place c in
            let g = in_flight_back N place (step A N c (event_of i)) in omega (arith, w, b, r, f, g, s));
        delivered = d;
        accepted = s;
      }

module _ {S V : Type 0} (meaning : S → Algebra V) where
  -- items taken one after the other, as events of c
  pub record Runs (t : SetupData S) (c : CoreState V) (items : List (Item V)) (p q : PartData S V) : Type 0 where
    pub enabled : count_enabled (meaning t.diffusion.algebra) (network_of t) c (map event_of items) ≡ length items
    pub holds : HoldsShareIn (meaning t.diffusion.algebra) (network_of t) (place_in t) (run_from (meaning t.diffusion.algebra) (network_of t) c (map event_of items)) q
    pub setup : q.setup ≡ t
    pub weighs : (h : ℕ → Item V → ℕ) → part_weight h q + in_flight (network_of t) (place_in t) c h
        ≡ part_weight h p + in_flight (network_of t) (place_in t) (run_from (meaning t.diffusion.algebra) (network_of t) c (map event_of items)) h
    pub sent : q.sent ≡ counted_on (sent_total (meaning t.diffusion.algebra) (network_of t) c (map event_of items)) p.sent
    pub delivered : q.delivered ≡ counted_on (delivered_total (meaning t.diffusion.algebra) (network_of t) c (map event_of items)) p.delivered
    pub signalled : q.signalled ≡ counted_on (signalled_total (meaning t.diffusion.algebra) (network_of t) c (map event_of items)) p.signalled
    pub accepted : q.accepted ≡ counted_on (accepted_total (meaning t.diffusion.algebra) (network_of t) c (map event_of items)) p.accepted

  -- a counter after one item and then others
  counter : (k l j a n m : ℕ) → n ≡ counted_on k a → k ≡ l → m ≡ counted_on j n → m ≡ counted_on (l + j) a
  counter k l j a n m p e q = q ∙ ap (counted_on j) (p ∙ ap (λ z. counted_on z a) e) ∙ counted_more l j a

  pub runs : (t : SetupData S) → Lawful (meaning t.diffusion.algebra) → WellFormed (network_of t)
      → (items : List (Item V)) (p q : PartData S V) (c : CoreState V) → p.setup ≡ t → IsTallied p
      → CoreInvariant (meaning t.diffusion.algebra) (network_of t) 0 c →
      HoldsShareIn (meaning t.diffusion.algebra) (network_of t) (place_in t) c p → HandledAll meaning p items q → Runs t c items p q
  runs t L W [] p q c e y K H s = subst (Runs t c [] p) s (record {
    enabled = refl;
    holds = H;
    setup = e;
    weighs = λ h. refl;
    sent = sym (counted_none p.sent y.0);
    delivered = sym (counted_none p.delivered y.1);
    signalled = sym (counted_none p.signalled y.2);
    accepted = sym (counted_none p.accepted y.3);
  })
  runs t L W (i ∷ is) p q c e y K H (m, T, rest) =
      let A = meaning t.diffusion.algebra in
      let N = network_of t in
      let handled_in : HandledItemIn (meaning t.diffusion.algebra) (network_of t) (place_in t) p i m = subst (λ u. HandledItemIn (meaning u.diffusion.algebra) (network_of u) (place_in u) p i m) e T in
      let E = handled_event A N (place_in t) L W c p i m K H handled_in in
      let C = counts A N (place_in t) L W c p i m K H handled_in in
      let below : IsTallied m = (
        subst (λ n. n ≤ top) (sym T.sent) (counted_top _ p.sent),
        subst (λ n. n ≤ top) (sym T.delivered) (counted_top (message_weight i) p.delivered),
        subst (λ n. n ≤ top) (sym T.signalled) (counted_top _ p.signalled),
        subst (λ n. n ≤ top) (sym T.accepted) (counted_top (signal_weight i) p.accepted),
      ) in
      let R = runs t L W is m q (step A N c (event_of i)) (handled_in.setup ∙ e) below (step_kept A N L W c (event_of i) K) E.holds rest in
      record {
        enabled = (let r = R.enabled in let one = cond-true {A = ℕ} (is_enabled c (event_of i)) 1 0 E.enabled in omega (arith, r, one));
        holds = R.holds;
        setup = R.setup;
        weighs = λ h. let w = E.weighs h in let r = R.weighs h in omega (arith, w, r);
        sent = counter _ _ (sent_total A N (step A N c (event_of i)) (map event_of is)) p.sent m.sent q.sent handled_in.sent C.sent R.sent;
        delivered = counter _ _ (delivered_total A N (step A N c (event_of i)) (map event_of is)) p.delivered m.delivered q.delivered handled_in.delivered C.delivered R.delivered;
        signalled = counter _ _ (signalled_total A N (step A N c (event_of i)) (map event_of is)) p.signalled m.signalled q.signalled handled_in.signalled C.signalled R.signalled;
        accepted = counter _ _ (accepted_total A N (step A N c (event_of i)) (map event_of is)) p.accepted m.accepted q.accepted handled_in.accepted C.accepted R.accepted;
      }

  -- on the state after some events
  pub run_on : (events : List Event) (p q : PartData S V) (n : ℕ) (items : List (Item V)) → Lawful (meaning p.setup.diffusion.algebra)
      → WellFormed (network_of p.setup) → IsTallied p → length items ≡ n → HandledAll meaning p items q →
      HoldsShare meaning (core_of meaning p.setup events) p → IsRunOn meaning events p n q
  run_on events p q n items L W y l T H =
      let A = meaning p.setup.diffusion.algebra in
      let N = network_of p.setup in
      let R = runs p.setup L W items p q (state_after A N events) refl y (run_kept A N L W (opening A N) events (opening_kept A N W)) H T in
      record {
        items = items;
        count = l;
        handled = T;
        enabled = R.enabled ∙ l;
        holds = subst (λ t. HoldsShareIn (meaning t.diffusion.algebra) (network_of t) (place_in t) (state_after A N (events ++ map event_of items)) q) (sym R.setup)
            (subst (λ d. HoldsShareIn A N (place_in p.setup) d q) (sym (run_append A N (opening A N) events (map event_of items))) R.holds);
        weighs = subst (λ d. (h : ℕ → Item V → ℕ) → part_weight h q + in_flight N (place_in p.setup) (state_after A N events) h
            ≡ part_weight h p + in_flight N (place_in p.setup) d h) (sym (run_append A N (opening A N) events (map event_of items))) R.weighs;
        sent = R.sent;
        delivered = R.delivered;
        signalled = R.signalled;
        accepted = R.accepted;
      }

  -- what many items leave
  pub handled_same : (items : List (Item V)) (p q : PartData S V) → HandledAll meaning p items q → (q.setup ≡ p.setup) × (q.shard ≡ p.shard)
  handled_same [] p q e = (ap (λ (u : PartData S V). u.setup) (sym e), ap (λ (u : PartData S V). u.shard) (sym e))
  handled_same (i ∷ items) p q (m, T, rest) = let r = handled_same items m q rest in (r.0 ∙ T.setup, r.1 ∙ T.shard)

  pub handled_many_same : (p q : PartData S V) (n : ℕ) → HandledMany meaning p n q → (q.setup ≡ p.setup) × (q.shard ≡ p.shard)
  handled_many_same p q n (items, l, T) = handled_same items p q T

  -- many items of a part, on the state after some events
  pub many_run : (state p q : PartData S V) (a : S) (n : ℕ) → state ≡ p → a ≡ state.setup.diffusion.algebra → Lawful (meaning a)
      → WellFormed (network_of state.setup) → IsTallied state → HandledMany meaning p n q →
      (events : List Event) → HoldsShare meaning (core_of meaning p.setup events) p → IsRunOn meaning events p n q
  many_run state p q a n e l L W y (items, count, T) events H = run_on events p q n items (subst (λ z. Lawful (meaning z)) (l ∙ ap (λ (u : PartData S V). u.setup.diffusion.algebra) e) L)
      (subst (λ (u : PartData S V). WellFormed (network_of u.setup)) e W) (subst IsTallied e y) count T H

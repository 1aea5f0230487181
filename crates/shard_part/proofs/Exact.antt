-- What items send, deliver, signal and accept, exactly, and that it is what their events do.
use Rattle.std.proofs.Common.{◌≡◌, ℕ, ◌+◌, min, List, [], ◌∷◌, ◌++◌, refl, ap, ◌∙◌, subst, arith}
use Rattle.shard_part.proofs.Words.{Item, Event, Algebra, Network, WellFormed, CoreState, step, run_from, CoreInvariant, step_kept, counted_on, top, PartData, state_in, event_of, SetupData, network_of, place_in, total, message_weight, signal_weight, made, HandledItemIn, HandledAll, Represents}
use Rattle.scholten_core.specs.Accounts.{Totals, count_sent, count_signalled, sent_total, delivered_total, signalled_total, accepted_total}
use Rattle.shard_part.specs.Exact.{no_totals, plus, done_by, Saturates, RepresentsMoved}
use Rattle.shard_part.proofs.Showing.{AllLawful, handled_shows, shown_holds}
use Rattle.shard_part.proofs.TakenCounts.{counts}

module _ {V : Type 0} (A : Algebra V) (N : Network) where
  pub sent_more : (c : CoreState V) (es fs : List Event) → sent_total A N c (es ++ fs) ≡ sent_total A N c es + sent_total A N (run_from A N c es) fs
  sent_more c [] fs = omega arith
  sent_more c (e ∷ es) fs = let r = sent_more (step A N c e) es fs in omega (arith, r)

  pub delivered_more : (c : CoreState V) (es fs : List Event) → delivered_total A N c (es ++ fs) ≡ delivered_total A N c es + delivered_total A N (run_from A N c es) fs
  delivered_more c [] fs = omega arith
  delivered_more c (e ∷ es) fs = let r = delivered_more (step A N c e) es fs in omega (arith, r)

  pub signalled_more : (c : CoreState V) (es fs : List Event) → signalled_total A N c (es ++ fs) ≡ signalled_total A N c es + signalled_total A N (run_from A N c es) fs
  signalled_more c [] fs = omega arith
  signalled_more c (e ∷ es) fs = let r = signalled_more (step A N c e) es fs in omega (arith, r)

  pub accepted_more : (c : CoreState V) (es fs : List Event) → accepted_total A N c (es ++ fs) ≡ accepted_total A N c es + accepted_total A N (run_from A N c es) fs
  accepted_more c [] fs = omega arith
  accepted_more c (e ∷ es) fs = let r = accepted_more (step A N c e) es fs in omega (arith, r)

saturated : (k v p m : ℕ) → p ≡ min v top → m ≡ counted_on k p → m ≡ min (v + k) top
saturated k v p m e f = f ∙ ap (counted_on k) e ∙ (let r : counted_on k (min v top) ≡ min (v + k) top = omega arith in r)

module _ {S V : Type 0} (meaning : S → Algebra V) where
  moved_on : (v k : ℕ) (l : ℕ) (q : ℕ) → q ≡ min (v + k + l) top → q ≡ min (v + (k + l)) top
  moved_on v k l q e = e ∙ ap (λ z. min z top) (let r : v + k + l ≡ v + (k + l) = omega arith in r)

  pub saturates : (items : List (Item V)) (p q : PartData S V) (T : HandledAll meaning p items q) (v : Totals) → Saturates v p → Saturates (plus v (done_by meaning items p q T)) q
  unfolding done_by
  saturates [] p q e v s = subst (Saturates (plus v no_totals)) e (record {
    sent = s.sent ∙ ap (λ z. min z top) (let r : v.sent ≡ v.sent + 0 = omega arith in r);
    delivered = s.delivered ∙ ap (λ z. min z top) (let r : v.delivered ≡ v.delivered + 0 = omega arith in r);
    signalled = s.signalled ∙ ap (λ z. min z top) (let r : v.signalled ≡ v.signalled + 0 = omega arith in r);
    accepted = s.accepted ∙ ap (λ z. min z top) (let r : v.accepted ≡ v.accepted + 0 = omega arith in r);
  })
  saturates (i ∷ is) p q (m, T, rest) v s =
      let A = meaning p.setup.diffusion.algebra in let N = network_of p.setup in
      let one : Totals = record {
        sent = total message_weight (made A N i (state_in p));
        delivered = message_weight i;
        signalled = total signal_weight (made A N i (state_in p));
        accepted = signal_weight i;
      } in
      let R = saturates is m q rest (plus v one) (record {
        sent = saturated _ v.sent p.sent m.sent s.sent T.sent;
        delivered = saturated _ v.delivered p.delivered m.delivered s.delivered T.delivered;
        signalled = saturated _ v.signalled p.signalled m.signalled s.signalled T.signalled;
        accepted = saturated _ v.accepted p.accepted m.accepted s.accepted T.accepted;
      }) in record {
        sent = moved_on v.sent one.sent _ q.sent R.sent;
        delivered = moved_on v.delivered one.delivered _ q.delivered R.delivered;
        signalled = moved_on v.signalled one.signalled _ q.signalled R.signalled;
        accepted = moved_on v.accepted one.accepted _ q.accepted R.accepted;
      }

  -- one part takes items, and what it did is what their events do
  pub moves : AllLawful meaning → (t : SetupData S) → WellFormed (network_of t)
      → (items : List (Item V)) (before after : List (PartData S V)) (p q : PartData S V) (mail : (ℕ → Item V → ℕ) → ℕ) (c : CoreState V) →
      CoreInvariant (meaning t.diffusion.algebra) (network_of t) 0 c → p.setup ≡ t → Represents meaning t (before ++ p ∷ after) mail c
      → (T : HandledAll meaning p items q) → RepresentsMoved meaning t c items (before ++ q ∷ after) mail (done_by meaning items p q T)
  unfolding done_by
  moves L t W [] before after p q mail c K e H T = record { shown = subst (λ (u : PartData S V). Represents meaning t (before ++ u ∷ after) mail c) T H; did = refl }
  moves L t W (i ∷ is) before after p q mail c K e H (m, T, rest) =
      let A = meaning t.diffusion.algebra in let N = network_of t in
      let handled_in : HandledItemIn (meaning t.diffusion.algebra) (network_of t) (place_in t) p i m = subst
      (λ (u : SetupData S). HandledItemIn (meaning u.diffusion.algebra) (network_of u) (place_in u) p i m) e T in
      let one = handled_shows meaning L t W before after p m i mail c K H T in
      let C = counts A N (place_in t) (L t.diffusion.algebra) W c p i m K (shown_holds A N (place_in t) before after p mail c H.shown) handled_in in
      let R = moves L t W is before after m q mail (step A N c (event_of i)) (step_kept A N (L t.diffusion.algebra) W c (event_of i) K) (T.setup ∙ e) one.1 rest in
      let told : total message_weight (made (meaning p.setup.diffusion.algebra) (network_of p.setup) i (state_in p))
      ≡ count_sent A N c (step A N c (event_of i)) = ap (λ (u : SetupData S). total message_weight
      (made (meaning u.diffusion.algebra) (network_of u) i (state_in p))) e ∙ C.sent in
      let back : total signal_weight (made (meaning p.setup.diffusion.algebra) (network_of p.setup) i (state_in p))
      ≡ count_signalled A N c (step A N c (event_of i)) = ap
      (λ (u : SetupData S). total signal_weight (made (meaning u.diffusion.algebra) (network_of u) i (state_in p))) e ∙ C.signalled in
      record {
        shown = R.shown;
        did = λ j. plus (record { sent = told j; delivered = C.delivered j; signalled = back j; accepted = C.accepted j }) (R.did j);
      }

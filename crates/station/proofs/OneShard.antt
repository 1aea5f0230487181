-- With one shard each turn before the end goes on.
use Rattle.station.proofs.Words.{◌≡◌, ◌≢◌, ℕ, zero, suc, ◌+◌, ◌<◌, ◌⊎◌, Bool, true, false, cond, List, map, [], ◌∷◌, ◌++◌, length, get_or, refl, sym, ap, ◌∙◌, subst, inl, inr, arith, length-append, Contains, length-map, nil_from_length, Algebra, IsLawful, Event, Item, one_if, sum_ones, SetupData, network_of, place_in, IsPlanned, is, place_below, opened_part, opened_parts, IsRunOn, RunsOn, has_ended, in_flight, part_weight, AllLawful, TableId, FloorData, read_box, HoldsReachedShare, Report, station_of, StationData, AreTries, Turned, Tried, Worked, SentOff, received}
use Rattle.scholten_core.specs.declared.event.Event.TheVariants.{Deliver, Accept}
use Rattle.scholten_core.specs.Network.{Network, WellFormed}
use Rattle.scholten_core.specs.Accounts.{is_delivery, is_acceptance, delivered_total, accepted_total}
use Rattle.scholten_core.specs.BestFirst.{IsBestFirst}
use Rattle.scholten_core.specs.Diffusion.{CoreState, opening, step, run_from, is_enabled, is_message, is_signal, count_enabled, HasEnded}
use Rattle.scholten_core.proofs.Counts.{never_more}
use Rattle.scholten_core.proofs.Ended.{opening_kept}
use Rattle.scholten_core.proofs.EveryRun.{best_first_most}
use Rattle.scholten_core.proofs.CoreInvariant.{run_kept}
use Rattle.scholten_core.proofs.Networks.{well_formed}
use Rattle.shard_part.specs.PartState.{PartData, event_of}
use Rattle.shard_part.specs.OnePart.{AreBestFirstIfOne, OwnOutboxIsEmpty}
use Rattle.shard_part.specs.Represents.{HoldsShare, HoldsShareIn, Represents, core_of}
use Rattle.shard_part.specs.Waiting.{QueueWaits, OutboxWaits, MailWaits}
use Rattle.shard_part.proofs.OnePartTakesTheBest.{all_best, best_first_more, own_stays}
use Rattle.shard_part.proofs.OpenedAll.{opened_show, opened_same}
use Rattle.shard_part.proofs.TakenCounts.{handled_same}
use Rattle.post_floor.proofs.Done.{knows_over}
use Rattle.station.specs.OneShard.{HasOneShard, best_first_turns_suffice, HasAll, WentOn}
use Rattle.station.proofs.QuietRound.{none_beyond}

only : {X : Type 0} (x y : X) → Contains (x ∷ []) y → y ≡ x
only x y (zero, l, e) = sym e
only x y (suc k, l, e) = absurd (omega (arith, l))

count_append : {V : Type 0} (A : Algebra V) (N : Network) (c : CoreState V) (es fs : List Event)
    → count_enabled A N c (es ++ fs) ≡ count_enabled A N c es + count_enabled A N (run_from A N c es) fs
count_append A N c [] fs = omega arith
count_append A N c (e ∷ es) fs = let r = count_append A N (step A N c e) es fs in omega (arith, r)

-- an enabled event is a delivery or an acceptance
module _ {V : Type 0} (A : Algebra V) (N : Network) where
  one_event : (b : Bool) → cond b 1 0 ≡ one_if b
  one_event true = refl
  one_event false = refl

  enabled_either : (c : CoreState V) (e : Event) → cond (is_enabled c e) 1 0 ≡ one_if (is_delivery A N c e) + one_if (is_acceptance A N c e)
  enabled_either c (Deliver a) = let h = one_event (is_message (c.token a)) in omega (arith, h)
  enabled_either c (Accept a) = let h = one_event (is_signal (c.token a)) in omega (arith, h)

  enabled_total : (c : CoreState V) (es : List Event) → count_enabled A N c es ≡ delivered_total A N c es + accepted_total A N c es
  enabled_total c [] = omega arith
  enabled_total c (e ∷ es) = let h = enabled_total (step A N c e) es in let k = enabled_either c e in omega (arith, h, k)

-- best first, at most two events for each arc, and two for the message into the source
pub few_best_first : {S V : Type 0} (meaning : S → Algebra V) (t : SetupData S) → HasOneShard t → IsLawful (meaning t.diffusion.algebra) → (events : List Event)
    → IsBestFirst (meaning t.diffusion.algebra) (network_of t) (opening (meaning t.diffusion.algebra) (network_of t)) events
    → count_enabled (meaning t.diffusion.algebra) (network_of t) (opening (meaning t.diffusion.algebra) (network_of t)) events < best_first_turns_suffice t
few_best_first meaning t O L events B =
    let A = meaning t.diffusion.algebra in let N = network_of t in let roads = t.diffusion.roads in
    let total = enabled_total A N (opening A N) events in
    let more = never_more A N L (well_formed roads t.diffusion.source O.planned.roads O.planned.source.0) events in
    let delivered = more.0 in let accepted = more.1 in
    let most = best_first_most A roads t.diffusion.source L O.planned.roads O.planned.source events B (λ _. true) (λ _ _ _. refl) in
    let ones = sum_ones (length roads.arcs) in
    omega (arith, total, delivered, accepted, most, ones)

-- the only mailbox is the own one, which is not tried
none_tried : (shard : ℕ) (box : ℕ → ℕ) (found : List ℕ) (before after : _) → shard ≡ 0 → AreTries 2 0 (λ j. j ≢ shard) box 1 found before after → found ≡ []
none_tried shard box found before after z (true, earlier, steps, T, I, e) = absurd (I.0 (sym z))
none_tried shard box found before after z (false, earlier, steps, T, I, e) = e ∙ ap (λ l. l ++ []) T.0

-- outboxes that were published were not all empty
none_sent : {S V : Type 0} (js : List ℕ) (p q : PartData S V) → ((j : ℕ) → get_or p.outs j [] ≡ []) → SentOff js p q → p ≡ q
none_sent [] p q none s = s
none_sent (j ∷ js) p q none s = absurd (s.1 (none j))

module _ {S V : Type 0} (meaning : S → Algebra V) (t : SetupData S) (O : HasOneShard t) where
  abbrev A : Algebra V
  A = meaning t.diffusion.algebra

  abbrev N : Network
  N = network_of t

  formed : WellFormed N
  formed = well_formed t.diffusion.roads t.diffusion.source O.planned.roads O.planned.source.0

  module _ (events : List Event) (p : PartData S V) (shown : Represents meaning t (p ∷ []) (λ _. 0) (core_of meaning t events)) (own : OwnOutboxIsEmpty p) (shard : p.shard ≡ 0) where
    same : p.setup ≡ t
    same = shown.same.0

    share : HoldsShare meaning (core_of meaning p.setup events) p
    share = subst (λ (u : SetupData S). HoldsShareIn (meaning u.diffusion.algebra) (network_of u) (place_in u) (core_of meaning u events) p) (sym same) (record {
      tables = shown.shown.tables.0;
      weighs = λ h. let w = shown.shown.weighs h in omega (arith, w);
    })

    known : HoldsReachedShare meaning p
    known = (events, share)

    -- the part has all vertices
    all_here : (v : ℕ) → place_in t v ≡ p.shard
    all_here v = let l = place_below t 0 O.planned v in let e = O.one in omega (arith, l, e, shard)

    -- items that are taken are events, after which the part still represents the state
    module _ (q : PartData S V) (n : ℕ) (R : IsRunOn meaning events p n q) where
      run_enabled : count_enabled A N (core_of meaning t events) (map event_of R.items) ≡ n
      run_enabled = subst (λ (u : SetupData S). count_enabled (meaning u.diffusion.algebra) (network_of u) (core_of meaning u events) (map event_of R.items) ≡ n) same R.enabled

      run_shown : Represents meaning t (q ∷ []) (λ _. 0) (core_of meaning t (events ++ map event_of R.items))
      run_shown =
          let kept = handled_same meaning R.items p q R.handled in
          let there = subst (λ (u : SetupData S). HoldsShare meaning (core_of meaning u (events ++ map event_of R.items)) q) same R.holds in
          let holds = subst (λ (u : SetupData S). HoldsShareIn (meaning u.diffusion.algebra) (network_of u) (place_in u) (core_of meaning t (events ++ map event_of R.items)) q) (kept.0 ∙ same) there in
          let weighs = subst (λ (u : SetupData S). (h : ℕ → Item V → ℕ) → part_weight h q + in_flight (network_of u) (place_in u) (core_of meaning u events) h
          ≡ part_weight h p + in_flight (network_of u) (place_in u) (core_of meaning u (events ++ map event_of R.items)) h) same R.weighs in
          record {
            same = (kept.0 ∙ same, tt);
            shown = record {
              tables = (holds.tables, tt);
              weighs = λ h. let a = weighs h in let b = shown.shown.weighs h in omega (arith, a, b);
              apart = λ j. let a = shown.shown.apart j in let e = ap (is j) kept.1 in omega (arith, a, e);
            };
          }

    none_out : (j : ℕ) → get_or p.outs j [] ≡ []
    none_out zero = subst (λ z. get_or p.outs z [] ≡ []) shard own
    none_out (suc j) = none_beyond meaning p (subst (λ (u : SetupData S). IsPlanned u 0) (sym same) O.planned) known (suc j)
        (let e : p.setup.plan.shards ≡ t.plan.shards = ap (λ (u : SetupData S). u.plan.shards) same in let o = O.one in omega (arith, e, o))

    -- with nothing in its queue the part knows the end
    empty_knows : (waits : (t : SetupData S) (events : List Event) (parts : List (PartData S V)) (mail : (ℕ → Item V → ℕ) → ℕ) → WellFormed (network_of t)
        → Represents meaning t parts mail (core_of meaning t events)
        → HasEnded (core_of meaning t events) ⊎ (QueueWaits parts ⊎ (OutboxWaits parts ⊎ MailWaits mail)))
        → p.queue ≡ [] → has_ended p ≡ true
    empty_knows waits none =
        let over : HasEnded (core_of meaning t events) = elim (waits t events (p ∷ []) (λ _. 0) formed shown) [
          | inl end ↦ end
          | inr some ↦ elim some [
            | inl q ↦ absurd (let e = ap (λ (x : PartData S V). length x.queue) (only p q.0 q.1) ∙ ap length none in let l = q.2 in omega (arith, e, l))
            | inr more ↦ elim more [
              | inl o ↦ absurd (let e = ap (λ (x : PartData S V). length (get_or x.outs o.2.0 [])) (only p o.0 o.1) ∙ ap length (none_out o.2.0) in let l = o.2.1 in omega (arith, e, l))
              | inr m ↦ absurd (omega (arith, m))
            ]
          ]
        ] in
        let here : place_in t 0 ≡ p.shard = (let l = place_below t 0 O.planned 0 in let e = O.one in omega (arith, l, e, shard)) in
        knows_over meaning t formed p (core_of meaning t events) same shown.shown.tables.0 here over

  pub opened_has_all : (id : TableId) → HasAll meaning t [] (station_of id t.plan.shards (opened_part A t 0))
  opened_has_all id =
      let one : opened_parts A t 0 t.plan.shards ≡ opened_part A t 0 ∷ [] = ap (opened_parts A t 0) O.one in record {
        shown = subst (λ (ps : List (PartData S V)). Represents meaning t ps (λ _. 0) (core_of meaning t [])) one
            (record { same = opened_same A t O.planned; shown = opened_show A t O.planned (λ _. 0) (λ _. refl) });
        enabled = refl;
        best = λ _. tt;
        own = ap (λ n. get_or (Rattle.std.specs.Prelude.replicate {A = List (Item V)} n []) 0 []) O.one;
        shard = refl;
        seat = refl;
      }

module _ {S V : Type 0} (meaning : S → Algebra V) (f : FloorData S) (O : HasOneShard f.setup) (budget : ℕ) (events : List Event) (before : StationData S V) (r : Report) (after : StationData S V)
    (lawful : AllLawful meaning)
    (waits : (t : SetupData S) (events : List Event) (parts : List (PartData S V)) (mail : (ℕ → Item V → ℕ) → ℕ) → WellFormed (network_of t)
    → Represents meaning t parts mail (core_of meaning t events)
    → HasEnded (core_of meaning t events) ⊎ (QueueWaits parts ⊎ (OutboxWaits parts ⊎ MailWaits mail)))
    (H : HasAll meaning f.setup events before) (going : before.ended ≡ false) (D : Turned meaning f budget before r after) where
  abbrev work : Worked meaning f budget before.part r after.part
  work = D.worked

  tried : Tried f before.seat work.emptied r work.outboxes after.seat
  tried = D.tried going

  nothing_came : tried.full ≡ []
  nothing_came = none_tried before.seat.shard (read_box f before.seat) tried.full before.seat.knows.steps tried.read H.seat
      (subst (λ n. AreTries 2 0 (λ j. j ≢ before.seat.shard) (read_box f before.seat) n tried.full before.seat.knows.steps tried.read) O.one tried.reads)

  filled : work.filled ≡ before.part
  filled = work.received_all ∙ ap (received before.part) (nil_from_length work.batches (work.taken ∙ sym tried.taken ∙ ap length nothing_came))

  run : IsRunOn meaning events before.part r.handled work.emptied
  run = subst (λ (p : PartData S V). RunsOn meaning p r.handled work.emptied) filled work.in_each events (share meaning f.setup O events before.part H.shown H.own H.shard)

  abbrev more : List Event
  more = map event_of run.items

  count : length more ≡ r.handled
  count = length-map run.items event_of ∙ run.count

  enabled : count_enabled (meaning f.setup.diffusion.algebra) (network_of f.setup) (core_of meaning f.setup events) more ≡ r.handled
  enabled = run_enabled meaning f.setup O events before.part H.shown H.own H.shard work.emptied r.handled run

  shown : Represents meaning f.setup (work.emptied ∷ []) (λ _. 0) (core_of meaning f.setup (events ++ more))
  shown = run_shown meaning f.setup O events before.part H.shown H.own H.shard work.emptied r.handled run

  -- what was taken is the best, and what was taken before was
  stays_best : AreBestFirstIfOne meaning f.setup (events ++ more)
  stays_best first =
      let A = meaning f.setup.diffusion.algebra in let N = network_of f.setup in let W = formed meaning f.setup O in
      best_first_more A N (opening A N) events more (H.best first)
      (all_best meaning lawful f.setup W first.1 run.items before.part work.emptied (core_of meaning f.setup events)
      (run_kept A N (lawful f.setup.diffusion.algebra) W (opening A N) events (opening_kept A N W))
      H.shown.same.0 H.shown.shown.tables.0 (λ h. let w = H.shown.shown.weighs h in omega (arith, w))
      (all_here meaning f.setup O events before.part H.shown H.own H.shard) H.own run.handled)

  own_emptied : OwnOutboxIsEmpty work.emptied
  own_emptied = own_stays meaning run.items before.part work.emptied run.handled H.own

  shard_emptied : work.emptied.shard ≡ 0
  shard_emptied = (handled_same meaning run.items before.part work.emptied run.handled).1 ∙ H.shard

  unsent : work.emptied ≡ after.part
  unsent = none_sent work.outboxes work.emptied after.part (none_out meaning f.setup O (events ++ more) work.emptied shown own_emptied shard_emptied) work.sent

  has_more : HasAll meaning f.setup (events ++ more) after
  has_more = record {
    shown = subst (λ (p : PartData S V). Represents meaning f.setup (p ∷ []) (λ _. 0) (core_of meaning f.setup (events ++ more))) unsent shown;
    enabled = (let e = count_append (meaning f.setup.diffusion.algebra) (network_of f.setup) (opening (meaning f.setup.diffusion.algebra) (network_of f.setup)) events more in
        let l = length-append events more in let a = H.enabled in let b = enabled in let c = count in omega (arith, e, l, a, b, c));
    best = stays_best;
    own = subst (λ (p : PartData S V). OwnOutboxIsEmpty p) unsent own_emptied;
    shard = ap (λ (p : PartData S V). p.shard) (sym unsent) ∙ shard_emptied;
    seat = D.seat ∙ ap (λ (p : PartData S V). p.shard) (sym unsent) ∙ shard_emptied;
  }

  reports : after.part.queue ≡ [] → after.ended ≡ true
  reports none = sym D.report ∙ D.announced (empty_knows meaning f.setup O (events ++ more) after.part has_more.shown has_more.own has_more.shard waits none)

  pub went_on : WentOn meaning f.setup budget events r after
  went_on = record {
    more = more;
    count = count;
    has_all = has_more;
    goes_on = elim (work.alone (inl O.one)) [ inl all ↦ inr all | inr none ↦ inl (reports none) ];
  }

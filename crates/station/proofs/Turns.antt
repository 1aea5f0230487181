-- What a whole turn does, of what its steps do.
use Rattle.station.proofs.Words.{◌≡◌, ◌≢◌, ℕ, ◌+◌, ◌-◌, ◌*◌, ◌<◌, ◌≤◌, Bool, true, false, Option, Some, None, IfSome, List, [], ◌∷◌, length, get_or, min, refl, sym, ap, ◌∙◌, subst, ◌⊎◌, inl, inr, arith, eq-eqb, length-append, IsTrue, append-nil, Algebra, same_no_worse, IsWalkValue, Event, Item, SetupData, IsPlanned, network_of, place_in, PartData, state_in, in_flight, part_weight, HoldsShare, core_of, IsOwn, has_ended, top, AllLawful, View, box_count, mailbox, FloorData, SeatData, fill_box, read_box, IsViewOf, HoldsReachedShare, Report, AreReady, AllCameIn, AllTriedFrom, AllTriedTo, Looked, WordStep, at, AreTries, used, HoldsNothingBack, IsAsFar, Turned, Tried}
use Rattle.scholten_core.specs.Diffusion.{state_after}
use Rattle.scholten_core.proofs.EveryRun.{labels_are_walk_values}
use Rattle.shard_part.specs.Part.{HandledMany, HandledWithin, IsRunOn, RunsOn}
use Rattle.station.specs.Station.{StationData, BelongsTo, ReportedEnd, IsStation}
use Rattle.station.proofs.Trying.{few_tries}
use Rattle.station.proofs.Labels.{IsLike, received_like, sent_like, sent_queue, labels_stay}

counts_none : (n m t : ℕ) → n ≡ min m t → n ≡ min (n + 0) t
counts_none n m t e = omega (arith, e)

all_steps : (a b c d k : ℕ) → b ≤ a + 2 * (k - 1) → c ≤ b + 2 * (k - 1) → d ≡ c + 1 → d ≤ a + 4 * (k - 1) + 1
all_steps a b c d k x y z = omega (arith, x, y, z)

module _ {S V : Type 0} where
  -- all steps of a turn
  all_tried : (f : FloorData S) (handled taken published : ℕ) (held : Bool) (c a b d : SeatData S V) (p q : PartData S V) (o : Bool)
      → AllTriedFrom f f.setup.plan.shards taken c a → (to : AllTriedTo f f.setup.plan.shards published p q a b) → Looked f o b d
      → Tried f c p (record { handled = handled; taken = taken; published = published; held = held; ended = o }) to.outboxes d
  all_tried f handled taken published held c a b d p q o from to look =
      let n = f.setup.plan.shards in
      record {
        full = from.full;
        taken = from.taken;
        read = a.knows.steps;
        reads = from.tries;
        filled = b.knows.steps;
        fills = subst (λ (x : ℕ × List ℕ). AreTries 0 2 (λ j. (j ≢ x.0) × (get_or p.outs j [] ≢ [])) (λ j. mailbox n x.0 j (get_or x.1 j 0)) n
            to.outboxes a.knows.steps b.knows.steps) (λ i. (from.shard i, from.next_fill i)) to.tries;
        number = look.number;
        looked = look.step;
        end_is = look.end_is;
        next_read = look.next_read ∙ to.next_read ∙ from.next_read;
        next_fill = look.next_fill ∙ to.next_fill ∙ ap (used to.outboxes) from.next_fill;
      }

  -- at most four for each other shard, and one
  few_steps : (f : FloorData S) (c : SeatData S V) (p : PartData S V) (r : Report) (outboxes : List ℕ) (d : SeatData S V) → c.shard < f.setup.plan.shards → Tried f c p r outboxes d
      → length d.knows.steps ≤ length c.knows.steps + 4 * (f.setup.plan.shards - 1) + 1
  few_steps f c p r outboxes d l t =
      let n = f.setup.plan.shards in
      let reads = few_tries 2 0 (λ j. j ≢ c.shard) (read_box f c) c.shard (λ ne. ne refl) n l t.full c.knows.steps t.read t.reads in
      let fills = few_tries 0 2 (λ j. (j ≢ c.shard) × (get_or p.outs j [] ≢ [])) (fill_box f c) c.shard (λ ne. ne.0 refl) n l outboxes t.read t.filled t.fills in
      all_steps (length c.knows.steps) (length t.read) (length t.filled) (length d.knows.steps) n reads fills
      (ap (λ (xs : List WordStep). length xs) t.looked ∙ length-append t.filled (at (box_count n) t.number ∷ []))

all_or_none : {S V : Type 0} (budget handled : ℕ) (p q : PartData S V) → q.queue ≡ p.queue → (handled ≡ budget) ⊎ (p.queue ≡ []) → (handled ≡ budget) ⊎ (q.queue ≡ [])
all_or_none budget handled p q e (inl h) = inl h
all_or_none budget handled p q e (inr z) = inr (e ∙ z)

module _ {S V : Type 0} (meaning : S → Algebra V) where
  -- no item was handled
  none_on : (p : PartData S V) (v : View S V) → IsViewOf v p → (before : List Event) → HoldsShare meaning (core_of meaning p.setup before) p → IsRunOn meaning before p 0 p
  none_on p v s before H = let A = meaning p.setup.diffusion.algebra in let N = network_of p.setup in record {
    items = [];
    count = refl;
    handled = refl;
    enabled = refl;
    holds = subst (λ es. HoldsShare meaning (state_after A N es) p) (sym (append-nil before)) H;
    weighs = λ h. ap (λ es. part_weight h p + in_flight N (place_in p.setup) (state_after A N es) h) (sym (append-nil before));
    sent = counts_none p.sent v.sent top s.sent;
    delivered = counts_none p.delivered v.delivered top s.delivered;
    signalled = counts_none p.signalled v.signalled top s.signalled;
    accepted = counts_none p.accepted v.accepted top s.accepted;
  }

  -- a turn after the end
  pub rested : AllLawful meaning → (f : FloorData S) (budget : ℕ) (s : StationData S V) → IsStation meaning s → ReportedEnd s → BelongsTo f s
      → Turned meaning f budget s (record { handled = 0; taken = 0; published = 0; held = false; ended = true }) s
  rested L f budget s i e b = record {
    own = b;
    shard = refl;
    seat = i.shard;
    worked = record {
      batches = [];
      taken = refl;
      filled = s.part;
      received_all = refl;
      emptied = s.part;
      handled = ([], refl, refl);
      known = i.known;
      events = none_on s.part s.seat.knows i.shows i.known.0 i.known.1;
      in_each = none_on s.part s.seat.knows i.shows;
      outboxes = [];
      published = refl;
      sent = refl;
      within = omega arith;
      limit = None;
      in_limit = ([], refl, refl);
      all = inr (inl (i.over e).part.queue);
      alone = λ _. inr (i.over e).part.queue;
      waits = λ h. absurd cc;
    };
    labels = λ v own x q. (x, q, same_no_worse (meaning s.part.setup.diffusion.algebra).no_worse (L s.part.setup.diffusion.algebra).ordered x);
    tried = λ q. absurd (let z = sym e ∙ q in cc);
    steps = omega arith;
    report = sym e;
    announced = λ _. refl;
    stays = λ _. (refl, refl);
  }

  -- a turn before the end
  pub turned : AllLawful meaning → (f : FloorData S) (budget handled taken published : ℕ) (held : Bool) (limit : Option V) (s : StationData S V) (a b d : SeatData S V) (filled emptied q : PartData S V) (o : Bool) → s.ended ≡ false
      → AllCameIn meaning taken s.part filled → emptied.setup ≡ filled.setup → emptied.shard ≡ filled.shard → HandledMany meaning filled handled emptied
      → RunsOn meaning filled handled emptied
      → handled ≤ budget → HandledWithin meaning limit filled handled emptied → IsAsFar (meaning filled.setup.diffusion.algebra) budget handled held limit f.ahead emptied
      → (HoldsNothingBack f → (handled ≡ budget) ⊎ (emptied.queue ≡ []))
      → (IsTrue held → (handled < budget) × (0 < length emptied.queue))
      → (has_ended q ≡ true → o ≡ true) → AreReady f d q → s.seat.shard < f.setup.plan.shards
      → AllTriedFrom f f.setup.plan.shards taken s.seat a → AllTriedTo f f.setup.plan.shards published emptied q a b → Looked f o b d
      → Turned meaning f budget s (record { handled = handled; taken = taken; published = published; held = held; ended = o }) (record { part = q; seat = d; ended = o })
  turned L f budget handled taken published held limit s a b d filled emptied q o going (bs, bl, be, K) es ss T E within bounded all alone waits announced ready own from to look =
      let before : IsLike s.part filled = subst (λ p. IsLike s.part p) (sym be) (received_like bs s.part) in
      let after : IsLike emptied q = sent_like to.outboxes emptied q to.sent in
      let tried = all_tried f handled taken published held s.seat a b d emptied q o from to look in
      record {
        own = record { floor = ready.floor; setup = ready.setup };
        shard = after.shard ∙ ss ∙ before.shard;
        seat = ready.shard;
        worked = record {
          batches = bs;
          taken = bl;
          filled = filled;
          received_all = be;
          emptied = emptied;
          handled = T;
          known = K;
          events = E K.0 K.1;
          in_each = E;
          outboxes = to.outboxes;
          published = to.published;
          sent = to.sent;
          within = within;
          limit = limit;
          in_limit = bounded;
          all = subst (λ (t : SetupData S). IsAsFar (meaning t.diffusion.algebra) budget handled held limit f.ahead emptied) before.setup all;
          alone = λ free. all_or_none budget handled emptied q (sent_queue to.outboxes emptied q to.sent) (alone free);
          waits = λ h. let w = waits h in (w.0, subst (λ (is : List (Item V)). 0 < length is) (sym (sent_queue to.outboxes emptied q to.sent)) w.1);
        };
        labels = λ v own. labels_stay meaning L s.part filled emptied q handled v before T after own.1;
        tried = λ _. tried;
        steps = few_steps f s.seat emptied _ to.outboxes d own tried;
        report = refl;
        announced = announced;
        stays = λ e. absurd cc;
      }

  -- the label of a part that holds its share of a state is the value of a walk
  pub walks : AllLawful meaning → (p : PartData S V) (s : ℕ) → IsPlanned p.setup s → HoldsReachedShare meaning p → (v : ℕ) → IsOwn p v → (o : Option V) → o ≡ (state_in p).label v
      → IfSome o (λ x. IsWalkValue (meaning p.setup.diffusion.algebra) p.setup.diffusion.roads (p.setup.diffusion.source ∷ []) v x)
  walks L p s P (events, H) v own None e = tt
  walks L p s P (events, H) v own (Some x) e =
      labels_are_walk_values (meaning p.setup.diffusion.algebra) p.setup.diffusion.roads p.setup.diffusion.source (L p.setup.diffusion.algebra) P.roads
      P.source.0 events v x (sym (H.tables.agree.label v (eq-eqb _ _ own.1)) ∙ sym e)

-- Each of the steps on a mailbox keeps the rule of the floor.
use Rattle.post_floor.proofs.Words.{◌≡◌, ◌≢◌, ℕ, ◌+◌, ◌<◌, List, [], ◌∷◌, ◌++◌, length, map, set, get_or, refl, sym, ap, ◌∙◌, subst, inl, inr, arith, length-set, get_or-set_other, get_or-set_same, cases_eq, Option, some, get_elem?, State, Me, Algebra, Event, Item, WellFormed, ended, PartData, event_of, SetupData, network_of, place_in, total, is, part_weight, HandledAll, HoldsShareIn, core_of, sum_at, AllLawful, run_append, View, filling, reading, box_count, dest, Slot, Place, fill_claims, read_claims, box, in_transit, MailboxInvariant, AreAllInOrder, FloorInvariant, done_by}
use Rattle.atomic_table.proofs.Lists.{at_set, set_here, set_else}
use Rattle.scholten_core.specs.Diffusion.{CoreState, opening, run_from, step as next_state, delivered, accepted, HasEnded, IsQuiet}
use Rattle.scholten_core.specs.declared.event.Event.TheVariants.{Deliver, Accept}
use Rattle.post_floor.proofs.Totals.{total_set}
use Rattle.post_floor.proofs.Keeps.{gone, Relisted, goes_on, idle_after}

module _ {V : Type 0} (A : Algebra V) (N : Rattle.scholten_core.specs.Network.Network) where
  -- after the end no event is enabled
  pub quiet_stays : (es : List Event) (c : CoreState V) → IsQuiet c → run_from A N c es ≡ c
  quiet_stays [] c Q = refl
  quiet_stays (Deliver a ∷ es) c Q = let one : next_state A N c (Deliver a) ≡ c = ap (delivered A N a c) (Q.0 a) in ap (λ (d : CoreState V). run_from A N d es) one ∙ quiet_stays es c Q
  quiet_stays (Accept a ∷ es) c Q = let one : next_state A N c (Accept a) ≡ c = ap (accepted A N a c) (Q.0 a) in ap (λ (d : CoreState V). run_from A N d es) one ∙ quiet_stays es c Q

module _ {S V : Type 0} (meaning : S → Algebra V) (t : SetupData S) (L : AllLawful meaning) (W : WellFormed (network_of t)) where
  abbrev pub Tab : Type 0
  Tab = State (Slot V) (View S V)

  abbrev pub Seat : Type 0
  Seat = Me (Slot V) (View S V)

  pub ended_more : (events more : List Event) → HasEnded (core_of meaning t events) → HasEnded (core_of meaning t (events ++ more))
  ended_more events more h =
      let A = meaning t.diffusion.algebra in let N = network_of t in
      let Q = (ended A N (L t.diffusion.algebra) W events h).0 in
      ap (λ (d : CoreState V). d.token 0) (run_append A N (opening A N) events more ∙ quiet_stays A N more (core_of meaning t events) Q) ∙ h

  box_else : (ws : List ℕ) (hs hs' : List (Option (Slot V))) (k n' j : ℕ) (f : Item V → ℕ) → j ≢ k → get_elem? hs' j ≡ get_elem? hs j
      → box f (get_or (set ws k n') j 0) (get_elem? hs' j) ≡ box f (get_or ws j 0) (get_elem? hs j)
  box_else ws hs hs' k n' j f ne e = let p : get_or (set ws k n') j 0 ≡ get_or ws j 0 = get_or-set_other ws k j n' 0 ne in
      ap (λ (z : ℕ). box f z (get_elem? hs' j)) p ∙ ap (box f (get_or ws j 0)) e

  mail_at : (n : ℕ) (ws : List ℕ) (hs hs' : List (Option (Slot V))) (k n' : ℕ) (h : ℕ → Item V → ℕ) → k < box_count n → k < length ws → ((j : ℕ) → j ≢ k → get_elem? hs' j ≡ get_elem? hs j)
      → in_transit n (set ws k n') hs' h + box (h (dest n k)) (get_or ws k 0) (get_elem? hs k) ≡ in_transit n ws hs h + box (h (dest n k)) n' (get_elem? hs' k)
  mail_at n ws hs hs' k n' h lt wide others =
      let p = sum_at (λ j. box (h (dest n j)) (get_or (set ws k n') j 0) (get_elem? hs' j)) (λ j. box (h (dest n j)) (get_or ws j 0) (get_elem? hs j))
      k (box_count n) lt (λ j ne. box_else ws hs hs' k n' j (h (dest n j)) ne (others j ne)) in
      let q : get_or (set ws k n') k 0 ≡ n' = get_or-set_same ws k n' 0 wide in
      p ∙ ap (λ (z : ℕ). in_transit n ws hs h + box (h (dest n k)) z (get_elem? hs' k)) q

  module _ (s : Tab) (r : FloorInvariant meaning t s) (id k : ℕ) (v : View S V) (b d : PartData S V) (items : List (Item V)) (T : HandledAll meaning b items d)
      (at : get_elem? s.views id ≡ some v) (one : v.parts ≡ b ∷ []) (lt : k < box_count t.plan.shards) where
    -- Only the mailbox k changes, by the view of the seat id. Its part has gone from b to d by
    -- items of its own, and then to e; u is the view but for that.
    pub record Change (n' : ℕ) (homes' : List (Option (Slot V))) (u : View S V) (e : PartData S V) : Type 0 where
      pub lists : Relisted meaning t d e
      pub now : Option (Slot V)
      pub homes_are : homes' ≡ set s.homes k now
      pub weighs : (h : ℕ → Item V → ℕ)
          → part_weight h e + box (h (dest t.plan.shards k)) n' (some now) ≡ part_weight h d + box (h (dest t.plan.shards k)) (get_or s.words k 0) (get_elem? s.homes k)
      pub fills : (j : ℕ) → j ≢ k → fill_claims j u ≡ fill_claims j v
      pub reads : (j : ℕ) → j ≢ k → read_claims j u ≡ read_claims j v
      pub fill : fill_claims k u + is filling (get_or s.words k 0) ≡ fill_claims k v + is filling n'
      pub read : read_claims k u + is reading (get_or s.words k 0) ≡ read_claims k v + is reading n'
      pub valid : MailboxInvariant t k n' (some now) (is filling n') (is reading n')
      pub seen : u.seen ≡ v.seen
      pub ordered : AreAllInOrder t.plan.shards (set s.words k n') (set s.views id (gone meaning t v u e (done_by meaning items b d T)))

    module _ (n' : ℕ) (homes' : List (Option (Slot V))) (u : View S V) (e : PartData S V) (c : Change n' homes' u e) where
      abbrev New : View S V
      New = gone meaning t v u e (done_by meaning items b d T)

      inside : k < length s.words
      inside = omega (arith, r.wide, lt)

      here : get_elem? homes' k ≡ some c.now
      here = ap (λ (z : List (Option (Slot V))). get_elem? z k) c.homes_are ∙ set_here s.homes k c.now (omega (arith, r.roomy, lt))

      others : (j : ℕ) → j ≢ k → get_elem? homes' j ≡ get_elem? s.homes j
      others j ne = ap (λ (z : List (Option (Slot V))). get_elem? z j) c.homes_are ∙ set_else s.homes k j c.now ne

      box_here : MailboxInvariant t k (get_or (set s.words k n') k 0) (get_elem? homes' k) (total (fill_claims k) (set s.views id New)) (total (read_claims k) (set s.views id New))
      box_here =
          let f : is filling n' ≡ total (fill_claims k) (set s.views id New) = let p = total_set (fill_claims k) s.views id v New at in let q = (r.boxes k lt).fills_is in let x = c.fill in omega (arith, p, q, x) in
          let g : is reading n' ≡ total (read_claims k) (set s.views id New) = let p = total_set (read_claims k) s.views id v New at in let q = (r.boxes k lt).reads_is in let x = c.read in omega (arith, p, q, x) in
          let word = get_or-set_same s.words k n' 0 inside in
          subst (λ (z : ℕ × Place V × ℕ × ℕ). MailboxInvariant t k z.0 z.1 z.2 z.3) (λ i. (sym word i, sym here i, f i, g i)) c.valid

      box_there : (j : ℕ) → j < box_count t.plan.shards → j ≢ k
          → MailboxInvariant t j (get_or (set s.words k n') j 0) (get_elem? homes' j) (total (fill_claims j) (set s.views id New))
          (total (read_claims j) (set s.views id New))
      box_there j jl ne =
          let p : get_or s.words j 0 ≡ get_or (set s.words k n') j 0 = sym (get_or-set_other s.words k j n' 0 ne) in
          let f : total (fill_claims j) s.views ≡ total (fill_claims j) (set s.views id New) = omega (arith, total_set (fill_claims j) s.views id v New at, c.fills j ne) in
          let g : total (read_claims j) s.views ≡ total (read_claims j) (set s.views id New) = omega (arith, total_set (read_claims j) s.views id v New at, c.reads j ne) in
          subst (λ (z : ℕ × Place V × ℕ × ℕ). MailboxInvariant t j z.0 z.1 z.2 z.3) (λ i. (p i, sym (others j ne) i, f i, g i)) (r.boxes j jl)

      pub changes : FloorInvariant meaning t (record { words = set s.words k n'; homes = homes'; views = set s.views id New })
          × HoldsShareIn (meaning t.diffusion.algebra) (network_of t) (place_in t) (core_of meaning t (r.events ++ map event_of items)) e × (e.setup ≡ t)
      changes =
          let n : ℕ = t.plan.shards in
          let G = goes_on meaning t L W s r id v u b d e items T (in_transit n (set s.words k n') homes') at one c.lists
          (λ h. let q = c.weighs h in
          let z = ap (box (h (dest n k)) n') here in omega (arith, mail_at n s.words s.homes homes' k n' h lt inside others, q, z)) in
          let done_same : get_or (set s.words k n') (box_count n) 0 ≡ get_or s.words (box_count n) 0 = get_or-set_other s.words k (box_count n) n' 0 (λ q. omega (arith, q, lt)) in (
            record {
              events = r.events ++ map event_of items;
              shown = G.shown;
              whole = G.whole;
              below = G.below;
              idle = idle_after meaning t s.views id New e refl r.idle;
              counts = G.counts;
              own = G.own;
              best = G.best;
              boxes = λ j jl. elim (cases_eq j k) [
                | inl same ↦ subst (λ (z : ℕ). MailboxInvariant t z (get_or (set s.words k n') z 0) (get_elem? homes' z)
                    (total (fill_claims z) (set s.views id New)) (total (read_claims z) (set s.views id New))) (sym same) box_here
                | inr ne ↦ box_there j jl ne
              ];
              done = λ o. ended_more r.events (map event_of items) (r.done (sym done_same ∙ o));
              seen = λ i y a sn. done_same ∙ (elim (at_set s.views id i New y a) [
                | inl z ↦ r.seen id v at (sym c.seen ∙ ap (λ (x : View S V). x.seen) z.1 ∙ sn)
                | inr z ↦ r.seen i y z.1 sn
              ]);
              wide = length-set s.words k n' ∙ r.wide;
              roomy = ap length c.homes_are ∙ length-set s.homes k c.now ∙ r.roomy;
              ordered = c.ordered;
            },
            G.share,
            G.setup,
          )

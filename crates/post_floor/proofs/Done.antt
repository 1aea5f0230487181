-- The steps on the done word keep the rule of the floor.
use Rattle.std.proofs.Common.{◌≡◌, ℕ, ◌<◌, Bool, true, false, not, ◌&&◌, eqb, eq-eqb, List, ◌++◌, map, set, get_or, refl, sym, ap, ◌∙◌, subst, inl, inr, arith, length-set, get_or-set_other, get_or-set_same}
use Rattle.std.proofs.lemmas.Bool.{cases_eq, and_parts}
use Rattle.post_floor.proofs.Words.{Option, some, get_elem?, at_set, Algebra, Event, Item, WellFormed, ended, SetupData, network_of, place_in, total, HandledAll, HoldsTables, HoldsShareIn, core_of, has_ended, sum_below_same, AllLawful, View, done_now, box_count, dest, Slot, fill_claims, read_claims, box, in_transit, MailboxInvariant, FloorInvariant, done_by}
use Rattle.atomic_table.specs.Table.{keeps, Allows}
use Rattle.scholten_core.specs.Diffusion.{CoreState, HasEnded, IsQuiet, is_idle}
use Rattle.scholten_core.proofs.Basics.{idle-true}
use Rattle.shard_part.specs.PartState.{PartData, token_if, event_of}
use Rattle.post_floor.specs.declared.view.WordStep.{WordStep}
use Rattle.post_floor.specs.Plays.{IsViewOf, StepsTo, at_word, see, ViewLags, HoldsReachedShare, HoldsEndedShare, LookStep, AnnounceStep}
use Rattle.post_floor.proofs.Totals.{total_set}
use Rattle.post_floor.proofs.Keeps.{gone, went, goes_on, idle_after}
use Rattle.post_floor.proofs.Changes.{Tab, Seat, ended_more}
use Rattle.post_floor.proofs.Exchanges.{unchanged, known_at, still_ordered}

not_busy : (V : Type 0) (z : Bool) → not z ≡ true → is_idle (token_if {V = V} z) ≡ true
not_busy V true e = absurd cc
not_busy V false e = refl

pub idle_not : (V : Type 0) (z : Bool) → is_idle (token_if {V = V} z) ≡ true → z ≡ false
idle_not V true e = absurd cc
idle_not V false e = refl

module _ {S V : Type 0} (meaning : S → Algebra V) (t : SetupData S) where
  -- the source's part knows whether the diffusion has ended
  pub over_is : WellFormed (network_of t) → (d : PartData S V) (c : CoreState V) → d.setup ≡ t
      → HoldsShareIn (meaning t.diffusion.algebra) (network_of t) (place_in t) c d → has_ended d ≡ true → HasEnded c
  over_is W d c e H o =
      let q = and_parts (eqb (place_in d.setup 0) d.shard) (not (get_or d.busy 0 false)) o in
      let here : eqb (place_in t ((network_of t).tail 0)) d.shard ≡ true = ap (λ v. eqb (place_in t v) d.shard) W.tail_zero ∙ ap (λ (u : SetupData S). eqb (place_in u 0) d.shard) (sym e) ∙ q.0 in
      idle-true (c.token 0) (sym (H.tables.agree.idle 0 here) ∙ not_busy V (get_or d.busy 0 false) q.1)

  pub knows_over : WellFormed (network_of t) → (d : PartData S V) (c : CoreState V) → d.setup ≡ t → HoldsTables (meaning t.diffusion.algebra) (network_of t) (place_in t) c d
      → place_in t 0 ≡ d.shard → HasEnded c → has_ended d ≡ true
  knows_over W d c e H home over =
      let mine : eqb (place_in t ((network_of t).tail 0)) d.shard ≡ true = ap (λ z. eqb (place_in t z) d.shard) W.tail_zero ∙ eq-eqb (place_in t 0) d.shard home in
      let own : eqb (place_in d.setup 0) d.shard ≡ true = ap (λ (u : SetupData S). eqb (place_in u 0) d.shard) e ∙ eq-eqb (place_in t 0) d.shard home in
      let idle : is_idle (token_if {V = V} (get_or d.busy 0 false)) ≡ true = H.agree.idle 0 mine ∙ ap is_idle over in
      (λ k. own k && not (idle_not V (get_or d.busy 0 false) idle k))

  ended_at : AllLawful meaning → WellFormed (network_of t) → (p : PartData S V) (events : List Event) → p.setup ≡ t
      → HoldsShareIn (meaning t.diffusion.algebra) (network_of t) (place_in t) (core_of meaning t events) p → HasEnded (core_of meaning t events)
      → HoldsEndedShare meaning p
  ended_at L W p events e H h =
      let Q : IsQuiet (core_of meaning t events) = (ended (meaning t.diffusion.algebra) (network_of t) (L t.diffusion.algebra) W events h).0 in
      let T = subst (λ (u : SetupData S). HoldsShareIn (meaning u.diffusion.algebra) (network_of u) (place_in u) (core_of meaning u events) p
      × HasEnded (core_of meaning u events) × IsQuiet (core_of meaning u events)) (sym e) (H, h, Q) in (events, T.0, T.1, T.2)

  module _ (L : AllLawful meaning) (W : WellFormed (network_of t)) where
    mail_done : (n : ℕ) (ws : List ℕ) (hs : List (Option (Slot V))) (n' : ℕ) (h : ℕ → Item V → ℕ) → in_transit n (set ws (box_count n) n') hs h ≡ in_transit n ws hs h
    mail_done n ws hs n' h = sum_below_same (λ j. box (h (dest n j)) (get_or (set ws (box_count n) n') j 0) (get_elem? hs j)) (λ j. box (h (dest n j)) (get_or ws j 0) (get_elem? hs j)) (box_count n)
        (λ j lt. ap (λ (z : ℕ). box (h (dest n j)) z (get_elem? hs j)) (get_or-set_other ws (box_count n) j n' 0 (λ e. omega (arith, e, lt))))

    -- The seat id, whose view shows the part b, makes a step on the done word. The part has gone on
    -- to d by items of its own.
    module _ (s : Tab meaning t L W) (r : FloorInvariant meaning t s) (id : ℕ) (v : View S V) (b d : PartData S V) (items : List (Item V)) (T : HandledAll meaning b items d)
        (at : get_elem? s.views id ≡ some v) (sh : IsViewOf v b) where
      abbrev n : ℕ
      n = t.plan.shards

      abbrev events : List Event
      events = r.events ++ map event_of items

      -- the view after the step
      abbrev after : View S V → View S V
      after u = gone meaning t v u d (done_by meaning items b d T)

      -- the word goes to n'
      notes : (n' : ℕ) (steps : List WordStep) (seen : Bool) → (get_or s.words (box_count n) 0 ≡ done_now → n' ≡ done_now)
          → (n' ≡ done_now → HoldsShareIn (meaning t.diffusion.algebra) (network_of t) (place_in t) (core_of meaning t events) d → d.setup ≡ t → HasEnded (core_of meaning t events))
          → (seen ≡ true → n' ≡ done_now)
          → FloorInvariant meaning t (record { words = set s.words (box_count n) n'; homes = s.homes; views = set s.views id (after (record v { steps = steps; seen = seen })) })
          × (n' ≡ done_now → HoldsEndedShare meaning d) × HoldsReachedShare meaning d
      notes n' steps seen stays ends sees =
          let w : View S V = after (record v { steps = steps; seen = seen }) in
          let G = goes_on meaning t L W s r id v (record v { steps = steps; seen = seen }) b d d items T (in_transit n (set s.words (box_count n) n') s.homes) at sh.parts (unchanged meaning t d)
          (λ h. omega (arith, mail_done n s.words s.homes n' h)) in
          let word : get_or (set s.words (box_count n) n') (box_count n) 0 ≡ n' = get_or-set_same s.words (box_count n) n' 0 (omega (arith, r.wide)) in
          let else' : (j : ℕ) → j < box_count n → get_or (set s.words (box_count n) n') j 0 ≡ get_or s.words j 0 = λ j lt. get_or-set_other s.words (box_count n) j n' 0 (λ e. omega (arith, e, lt)) in
          let over : n' ≡ done_now → HasEnded (core_of meaning t events) = λ e. ends e G.share G.setup in (
            record {
              events = events;
              shown = G.shown;
              whole = G.whole;
              below = G.below;
              idle = idle_after meaning t s.views id w d refl r.idle;
              counts = G.counts;
              own = G.own;
              best = G.best;
              boxes = λ j jl. let f : total (fill_claims j) s.views ≡ total (fill_claims j) (set s.views id w) = let a = total_set (fill_claims j) s.views id v w at in omega (arith, a) in
                  let g : total (read_claims j) s.views ≡ total (read_claims j) (set s.views id w) = omega (arith, total_set (read_claims j) s.views id v w at) in
                  subst (λ (z : ℕ × ℕ × ℕ). MailboxInvariant t j z.0 (get_elem? s.homes j) z.1 z.2) (λ i. (sym (else' j jl) i, f i, g i)) (r.boxes j jl);
              done = λ o. over (sym word ∙ o);
              seen = λ i y a sn. word ∙ (elim (at_set s.views id i w y a) [ inl z ↦ sees (ap (λ (x : View S V). x.seen) z.1 ∙ sn) | inr z ↦ stays (r.seen i y z.1 sn) ]);
              wide = length-set s.words (box_count n) n' ∙ r.wide;
              roomy = r.roomy;
              ordered = still_ordered meaning t L W s r id v (record v { steps = steps; seen = seen }) b d items T (set s.words (box_count n) n') at sh.parts refl refl else';
            },
            (λ e. ended_at L W d events G.setup G.share (over e)),
            known_at meaning t d events G.setup G.share,
          )

      noted : (u : View S V) → StepsTo u d (after u)
      noted u = went meaning t v u b d d items T sh (unchanged meaning t d)

      still_over : get_or s.words (box_count n) 0 ≡ done_now → HasEnded (core_of meaning t events)
      still_over e = ended_more meaning t L W r.events (map event_of items) (r.done e)

    pub announces : (m id k : ℕ) (me : Seat meaning t L W) (d : PartData S V) → k ≡ box_count t.plan.shards → ViewLags meaning me.0 d → has_ended d ≡ true
        → Allows (FloorInvariant meaning t) m id me k (λ _. done_now) (λ _. AnnounceStep meaning d k me)
    announces m id k me d word (b, items, sh, T) over = subst (λ j. Allows (FloorInvariant meaning t) m id me j (λ _. done_now) (λ _. AnnounceStep meaning d j me)) (sym word) (λ s r roomy at small.
        let u : View S V = at_word (box_count t.plan.shards) done_now (see me.0) in
        let p = notes s r id me.0 b d items T at sh done_now u.steps true (λ _. refl) (λ _ H e. over_is W d (core_of meaning t (r.events ++ map event_of items)) e H over) (λ _. refl) in
        (after s r id me.0 b d items T at sh u, keeps, tt, p.0, (noted s r id me.0 b d items T at sh u, p.1 refl, refl)))

    pub looks : (m id k : ℕ) (me : Seat meaning t L W) (d : PartData S V) → k ≡ box_count t.plan.shards → ViewLags meaning me.0 d
        → Allows (FloorInvariant meaning t) m id me k (λ z. z) (LookStep meaning d k me)
    looks m id k me d word (b, items, sh, T) = subst (λ j. Allows (FloorInvariant meaning t) m id me j (λ z. z) (LookStep meaning d j me)) (sym word) (λ s r roomy at small.
        let y : ℕ = get_or s.words (box_count t.plan.shards) 0 in
        elim (cases_eq y done_now) [
          | inl hit ↦ (let u : View S V = at_word (box_count t.plan.shards) done_now (see me.0) in let p = notes s r id me.0 b d items T at sh y u.steps true (λ e. e) (λ e _ _. still_over s r id me.0 b d items T at sh e) (λ _. hit) in
              (after s r id me.0 b d items T at sh u, keeps, tt, p.0, ((λ e. (noted s r id me.0 b d items T at sh u, p.1 e)), (λ ne. absurd (ne hit)), refl)))
          | inr miss ↦ (let u : View S V = at_word (box_count t.plan.shards) y me.0 in let p = notes s r id me.0 b d items T at sh y u.steps me.0.seen (λ e. e) (λ e _ _. still_over s r id me.0 b d items T at sh e) (λ sn. r.seen id me.0 at sn) in
              (after s r id me.0 b d items T at sh u, keeps, tt, p.0, ((λ e. absurd (miss e)), (λ ne. (noted s r id me.0 b d items T at sh u, p.2)), refl)))
        ])

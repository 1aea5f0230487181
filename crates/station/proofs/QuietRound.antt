-- A quiet round leaves the floor still.
use Rattle.station.proofs.Words.{◌≡◌, ◌≢◌, ◌⊎◌, ℕ, zero, suc, ◌+◌, ◌<◌, ◌≤◌, Bool, true, false, List, [], ◌∷◌, ◌++◌, map, length, get_or, refl, sym, ap, ◌∙◌, subst, inl, inr, arith, append_assoc, Contains, cases_eq, cases_lt, false≢true, Algebra, Item, Network, CoreState, item_of, SetupData, network_of, place_in, IsPlanned, total, is, place_below, sum_zero, All, at_place, in_flight, HandledAll, OwnOutboxIsEmpty, has_ended, core_of, each_one, outs_member, View, WordStep, FloorData, fill_box, read_box, HoldsReachedShare, ReportedEnd, at, AreTries, used, HoldsNothingBack, SentOff, Tried, Worked, received}
use Rattle.std.proofs.lemmas.List.{append_cancel_left, nil_from_length}
use mathlib.Core.Option.{some, some-injective, some-ne-none}
use lib.ListN.{get_elem?}
use Rattle.atomic_table.specs.Table.{State}
use Rattle.shard_part.specs.PartState.{PartData, vertex_of}
use Rattle.shard_part.proofs.Showing.{all_parts, is_self}
use Rattle.post_floor.specs.Boxes.{empty, full, box_count}
use Rattle.post_floor.specs.Floor.{Slot, fill_claims, read_claims, words_between, FloorInvariant, Rests, IsStill}
use Rattle.post_floor.proofs.Ordering.{box_below}
use Rattle.post_floor.proofs.Parts.{flat_at}
use Rattle.post_floor.proofs.Still.{Found, find}
use Rattle.post_floor.proofs.Totals.{is_else, total_none}
use Rattle.station.specs.Round.{nothing_done, AreFound, IsSameMail, HasNoClaim, TurnAt, IsQuietTurn, AreQuietTurns, IsQuietRound}
use Rattle.station.proofs.QuietTries.{Missed, AllMissed, all_missed}

contains_split : {A : Type 0} (y : A) (ys : List A) (x : A) → Contains (y ∷ ys) x → (y ≡ x) ⊎ Contains ys x
contains_split y ys x (zero, l, e) = inl e
contains_split y ys x (suc k, l, e) = inr (k, omega (arith, l), e)

contains_map : {A B : Type 0} (f : A → B) (xs : List A) (y : B) → Contains (map f xs) y → (x : A) × Contains xs x × (f x ≡ y)
contains_map f [] y c = absurd (let none = c.1 in omega (arith, none))
contains_map f (x ∷ xs) y c = elim (contains_split (f x) (map f xs) y c) [
  | inl e ↦ (x, (0, omega arith, refl), e)
  | inr r ↦ (let m = contains_map f xs y r in (m.0, (suc m.1.0, (let l = m.1.1 in omega (arith, l)), m.1.2), m.2))
]

only_one : {A : Type 0} (x y : A) (k : ℕ) → get_elem? (x ∷ []) k ≡ some y → x ≡ y
only_one x y zero e = some-injective x y e
only_one x y (suc k) e = absurd (some-ne-none y (sym e))

empty_or_not : {A : Type 0} (xs : List A) → (xs ≡ []) ⊎ (xs ≢ [])
empty_or_not [] = inl refl
empty_or_not (x ∷ xs) = inr (λ e. absurd cc)

-- a step found what is in its word, if that is a mailbox's
abbrev IsFound : ℕ → List ℕ → WordStep → Type 0
IsFound n words x = x.word < box_count n → get_or words x.word 0 ≡ x.number

-- a mailbox that was missed has another number than the wanted one
not_wanted : (n : ℕ) (words now : List ℕ) (steps : List WordStep) (wanted : ℕ) (box : ℕ → ℕ) (j : ℕ) → AreFound n words steps → IsSameMail n words now → box j < box_count n
    → Missed wanted box j steps → get_or now (box j) 0 ≢ wanted
not_wanted n words now steps wanted box j a mail low (x, ne, before, after, e) same =
    let found = (all_parts (IsFound n words) before (at (box j) x ∷ after) (subst (AreFound n words) e a)).1.0 in
    ne (sym (found low) ∙ sym (mail (box j) low) ∙ same)

module _ {S V : Type 0} (meaning : S → Algebra V) where
  handled_none : (p q : PartData S V) (items : List (Item V)) → length items ≡ 0 → HandledAll meaning p items q → p ≡ q
  handled_none p q [] e h = h
  handled_none p q (i ∷ items) e h = absurd (omega (arith, e))

  -- work of which nothing came, with nothing held back, leaves the part as it was, with an empty
  -- queue
  idle_work : (f : FloorData S) (budget : ℕ) (p q : PartData S V) (held ended : Bool) → 0 < budget → (held ≡ false) ⊎ HoldsNothingBack f → (W : Worked meaning f budget p (nothing_done held ended) q)
      → (W.emptied ≡ p) × (q ≡ p) × (W.outboxes ≡ []) × (q.queue ≡ [])
  idle_work f budget p q held ended enough free W =
      let filled : W.filled ≡ p = W.received_all ∙ ap (received p) (nil_from_length W.batches W.taken) in
      let emptied : W.emptied ≡ p = sym (handled_none W.filled W.emptied W.handled.0 W.handled.1 W.handled.2) ∙ filled in
      let unsent : W.outboxes ≡ [] = nil_from_length W.outboxes W.published in
      let left : W.emptied ≡ q = subst (λ (js : List ℕ). SentOff js W.emptied q) unsent W.sent in (
        emptied,
        sym left ∙ emptied,
        unsent,
        elim free [
          | inl unheld ↦ elim W.all [
            | inl all ↦ absurd (omega (arith, all, enough))
            | inr rest ↦ elim rest [ inl none ↦ ap (λ (r : PartData S V). r.queue) (sym left) ∙ none | inr h ↦ absurd (false≢true (sym unheld ∙ h.0)) ]
          ]
          | inr never ↦ elim (W.alone never) [
            | inl all ↦ absurd (omega (arith, all, enough))
            | inr none ↦ none
          ]
        ],
      )

  none_in_flight : (N : Network) (place : ℕ → ℕ) (c : CoreState V) (h : ℕ → Item V → ℕ) → ((i : Item V) → at_place N place h i ≡ 0) → in_flight N place c h ≡ 0
  none_in_flight N place c h none = sum_zero (λ b. total (at_place N place h) (item_of b (c.token b))) (suc N.arcs) (λ b. total_none (at_place N place h) (item_of b (c.token b)) (λ _ i _. none i))

  -- no outbox of a part has items for a shard that is not there
  pub none_beyond : (p : PartData S V) → IsPlanned p.setup 0 → HoldsReachedShare meaning p → (j : ℕ) → p.setup.plan.shards ≤ j → get_or p.outs j [] ≡ []
  none_beyond p P known j beyond =
      let N = network_of p.setup in let h : ℕ → Item V → ℕ = λ k i. is j k in
      let away : (i : Item V) → at_place N (place_in p.setup) h i ≡ 0 = λ i. let l = place_below p.setup 0 P (vertex_of N i) in is_else j (place_in p.setup (vertex_of N i)) (λ e. omega (arith, e, l, beyond)) in
      let under_way = none_in_flight N (place_in p.setup) (core_of meaning p.setup known.0) h away in
      let most = known.1.weighs h in
      let here = outs_member h 0 j p.outs in
      let each = each_one (h (0 + j)) (get_or p.outs j []) (λ i. ap (is j) (let e : 0 + j ≡ j = omega arith in e) ∙ is_self j) in
      nil_from_length (get_or p.outs j []) (omega (arith, most, under_way, here, each))

module _ {S V : Type 0} (meaning : S → Algebra V) (f : FloorData S) (budget : ℕ) (enough : 0 < budget) (P : IsPlanned f.setup 0) where
  abbrev n : ℕ
  n = f.setup.plan.shards

  abbrev at_floor : View S V → List (PartData S V) × List ℕ × List ℕ
  at_floor v = (v.parts, v.next_fill, v.next_read)

  -- a view has the same parts and next slots as another
  abbrev SameAt : View S V → View S V → Type 0
  SameAt v w = at_floor w ≡ at_floor v

  all_rest : (words : List ℕ) (v w : View S V) → SameAt v w → (ps : List (PartData S V)) → All (Rests n words v) ps → All (Rests n words w) ps
  all_rest words v w e [] a = tt
  all_rest words v w e (p ∷ ps) (r, a) = (
    record {
      next_fill = ap (λ z. length z.1) e ∙ r.next_fill;
      next_read = ap (λ z. length z.2) e ∙ r.next_read;
      queue = r.queue;
      from = λ j l ne. subst (λ (next : List ℕ). words_between n words j p.shard (get_or next j 0) ≢ full) (ap (λ z. z.2) (sym e)) (r.from j l ne);
      to = λ j. subst (λ (next : List ℕ). (get_or p.outs j [] ≡ []) ⊎ ((j < n) × (j ≢ p.shard) × (words_between n words p.shard j (get_or next j 0) ≢ empty))) (ap (λ z. z.1) (sym e)) (r.to j);
    },
    all_rest words v w e ps a,
  )

  same_rests : (words : List ℕ) (v w : View S V) → SameAt v w → All (Rests n words v) v.parts → All (Rests n words w) w.parts
  same_rests words v w e a = subst (λ (ps : List (PartData S V)). All (Rests n words w) ps) (ap (λ z. z.0) (sym e)) (all_rest words v w e v.parts a)

  module _ (s : State (Slot V) (View S V)) (t : TurnAt S V) (q : IsQuietTurn meaning f budget s t) where
    abbrev work : Worked meaning f budget t.before.part (nothing_done q.held t.after.ended) t.after.part
    work = q.turned.worked

    -- nothing came of the work
    work_none : (work.emptied ≡ t.before.part) × (t.after.part ≡ t.before.part) × (work.outboxes ≡ []) × (t.after.part.queue ≡ [])
    work_none = idle_work meaning f budget t.before.part t.after.part q.held t.after.ended enough q.unheld work

    tries : Tried f t.before.seat work.emptied (nothing_done q.held t.after.ended) work.outboxes t.after.seat
    tries = q.turned.tried q.unaware

    view_same : SameAt t.before.seat.knows t.after.seat.knows
    view_same = λ i. (
      (q.now.shows.parts ∙ ap (λ p. p ∷ []) work_none.1 ∙ sym q.was.shows.parts) i,
      (tries.next_fill ∙ ap (λ js. used js t.before.seat.knows.next_fill) work_none.2) i,
      (tries.next_read ∙ ap (λ js. used js t.before.seat.knows.next_read) (nil_from_length tries.full tries.taken)) i,
    )

    reads_missed : AllMissed 2 0 (λ j. j ≢ t.before.seat.shard) (read_box f t.before.seat) n t.before.seat.knows.steps tries.read
    reads_missed = all_missed 2 0 (λ j. j ≢ t.before.seat.shard) (read_box f t.before.seat) n t.before.seat.knows.steps tries.read
        (subst (λ (js : List ℕ). AreTries 2 0 (λ j. j ≢ t.before.seat.shard) (read_box f t.before.seat) n js t.before.seat.knows.steps tries.read) (nil_from_length tries.full tries.taken) tries.reads)

    -- an outbox to another shard that is not empty
    abbrev waits : ℕ → Type 0
    waits j = (j ≢ t.before.seat.shard) × (get_or work.emptied.outs j [] ≢ [])

    fills_missed : AllMissed 0 2 waits (fill_box f t.before.seat) n tries.read tries.filled
    fills_missed = all_missed 0 2 waits (fill_box f t.before.seat) n tries.read tries.filled
        (subst (λ (js : List ℕ). AreTries 0 2 waits (fill_box f t.before.seat) n js tries.read tries.filled) work_none.2 tries.fills)

    abbrev looked : List WordStep
    looked = at (box_count n) tries.number ∷ []

    -- the steps of the turn: reads, fills, and a look at the done word
    steps_are : q.steps ≡ reads_missed.more ++ (fills_missed.more ++ looked)
    steps_are = append_cancel_left t.before.seat.knows.steps q.steps (reads_missed.more ++ (fills_missed.more ++ looked))
        (sym q.made ∙ tries.looked ∙ ap (λ l. l ++ looked) (fills_missed.made ∙ ap (λ l. l ++ fills_missed.more) reads_missed.made)
        ∙ append_assoc (t.before.seat.knows.steps ++ reads_missed.more) fills_missed.more looked
        ∙ append_assoc t.before.seat.knows.steps reads_missed.more (fills_missed.more ++ looked))

    found_all : AreFound n s.words reads_missed.more × AreFound n s.words (fills_missed.more ++ looked)
    found_all = all_parts (IsFound n s.words) reads_missed.more (fills_missed.more ++ looked) (subst (AreFound n s.words) steps_are q.found)

    found_fills : AreFound n s.words fills_missed.more
    found_fills = (all_parts (IsFound n s.words) fills_missed.more looked found_all.1).0

    setup : t.before.part.setup ≡ f.setup
    setup = ap (λ (z : PartData S V). z.setup) (sym work_none.1) ∙ q.turned.own.setup

    beyond : (j : ℕ) → n ≤ j → get_or t.before.part.outs j [] ≡ []
    beyond j l = none_beyond meaning t.before.part (subst (λ (u : SetupData S). IsPlanned u 0) (sym setup) P) q.was.known j (subst (λ (u : SetupData S). u.plan.shards ≤ j) (sym setup) l)

    -- a station whose part has ended reports it
    reports : has_ended t.before.part ≡ true → ReportedEnd t.after
    reports e = q.turned.announced (ap has_ended work_none.1 ∙ e)

    low : t.before.seat.shard < n
    low = subst (λ z. z < n) (sym q.was.shard) q.shard

    -- the next mailbox from another shard is not full, and no next mailbox to one for which
    -- something waits is empty
    not_full : (now : List ℕ) → IsSameMail n s.words now → (j : ℕ) → j < n → j ≢ t.before.part.shard → words_between n now j t.before.part.shard (get_or t.before.seat.knows.next_read j 0) ≢ full
    not_full now mail j l ne = subst (λ z. words_between n now j z (get_or t.before.seat.knows.next_read j 0) ≢ full) q.was.shard
        (not_wanted n s.words now reads_missed.more 2 (read_box f t.before.seat) j found_all.0 mail
        (box_below n j t.before.seat.shard (get_or t.before.seat.knows.next_read j 0) low (q.reads.low j) l) (reads_missed.missed j l (λ e. ne (e ∙ q.was.shard))))

    not_empty : (now : List ℕ) → IsSameMail n s.words now → (j : ℕ) → j < n → j ≢ t.before.part.shard → get_or t.before.part.outs j [] ≢ []
        → words_between n now t.before.part.shard j (get_or t.before.seat.knows.next_fill j 0) ≢ empty
    not_empty now mail j l apart ne = subst (λ z. words_between n now z j (get_or t.before.seat.knows.next_fill j 0) ≢ empty) q.was.shard
        (not_wanted n s.words now fills_missed.more 0 (fill_box f t.before.seat) j found_fills mail
        (box_below n t.before.seat.shard j (get_or t.before.seat.knows.next_fill j 0) l (q.fills.low j) low)
        (fills_missed.missed j l (λ e. apart (e ∙ q.was.shard), subst (λ (z : PartData S V). get_or z.outs j [] ≢ []) (sym work_none.0) ne)))

    -- a part that had a quiet turn rests, as long as the mailboxes stay the same
    turn_rests : (now : List ℕ) → IsSameMail n s.words now → OwnOutboxIsEmpty t.before.part → Rests n now t.before.seat.knows t.before.part
    turn_rests now mail own = let p = t.before.part in record {
      next_fill = q.fills.long;
      next_read = q.reads.long;
      queue = ap (λ (z : PartData S V). z.queue) (sym work_none.1) ∙ work_none.3;
      from = not_full now mail;
      to = λ j. elim (empty_or_not (get_or p.outs j [])) [
        | inl e ↦ inl e
        | inr ne ↦ elim (cases_lt j n) [
          | inl l ↦ (let apart : j ≢ p.shard = λ e. ne (ap (λ z. get_or p.outs z []) e ∙ own) in inr (l, apart, not_empty now mail j l apart ne))
          | inr l ↦ absurd (ne (beyond j l))
        ]
      ];
    }

    rests_after : (now : List ℕ) → IsSameMail n s.words now → OwnOutboxIsEmpty t.before.part → All (Rests n now t.after.seat.knows) t.after.seat.knows.parts
    rests_after now mail own = same_rests now t.before.seat.knows t.after.seat.knows view_same
        (subst (λ (ps : List (PartData S V)). All (Rests n now t.before.seat.knows) ps) (sym q.was.shows.parts) (turn_rests now mail own, tt))

  -- no seat has a claim, and nothing is in an outbox to its own shard
  record Ready (s : State (Slot V) (View S V)) : Type 0 where
    claims : HasNoClaim s
    own : (id : ℕ) (v : View S V) → get_elem? s.views id ≡ some v → All OwnOutboxIsEmpty v.parts

  own_of : (s : State (Slot V) (View S V)) (t : TurnAt S V) → IsQuietTurn meaning f budget s t → Ready s → OwnOutboxIsEmpty t.before.part
  own_of s t q R = (subst (λ (ps : List (PartData S V)). All OwnOutboxIsEmpty ps) q.was.shows.parts (R.own t.id t.before.seat.knows q.view)).0

  -- what holds of the station's view, and held of all, holds of all
  still_all : (Q : View S V → Type 0) (s : State (Slot V) (View S V)) (t : TurnAt S V) → IsQuietTurn meaning f budget s t → Q t.after.seat.knows
      → ((id : ℕ) (v : View S V) → get_elem? s.views id ≡ some v → Q v) → (id : ℕ) (v : View S V) → get_elem? t.left.views id ≡ some v → Q v
  still_all Q s t q own all id v at' = elim (cases_eq id t.id) [
    | inl same ↦ subst Q (some-injective t.after.seat.knows v (sym q.same.own ∙ ap (λ i. get_elem? t.left.views i) (sym same) ∙ at')) own
    | inr ne ↦ all id v (sym (q.same.others id ne) ∙ at')
  ]

  ready_on : (s : State (Slot V) (View S V)) (t : TurnAt S V) → IsQuietTurn meaning f budget s t → Ready s → Ready t.left
  ready_on s t q R = record {
    claims = record {
      fills = λ k. still_all (λ v. fill_claims k v ≡ 0) s t q (ap (total (is k)) q.now.free.0) (R.claims.fills k);
      reads = λ k. still_all (λ v. read_claims k v ≡ 0) s t q (ap (total (is k)) q.now.free.1) (R.claims.reads k);
    };
    own = still_all (λ v. All OwnOutboxIsEmpty v.parts) s t q
        (subst (λ (ps : List (PartData S V)). All OwnOutboxIsEmpty ps) (ap (λ z. z.0) (sym (view_same s t q))) (R.own t.id t.before.seat.knows q.view)) R.own;
  }

  -- a view with the same parts and next slots is there
  abbrev HasSame : ℕ → View S V → State (Slot V) (View S V) → Type 0
  HasSame id v s = (w : View S V) × (get_elem? s.views id ≡ some w) × SameAt v w

  kept_on : (s : State (Slot V) (View S V)) (t : TurnAt S V) → IsQuietTurn meaning f budget s t → (id : ℕ) (v : View S V) → get_elem? s.views id ≡ some v → HasSame id v t.left
  kept_on s t q id v at' = elim (cases_eq id t.id) [
    | inl same ↦ (
      t.after.seat.knows,
      ap (λ i. get_elem? t.left.views i) same ∙ q.same.own,
      subst (λ (u : View S V). SameAt u t.after.seat.knows) (some-injective t.before.seat.knows v (sym q.view ∙ ap (λ i. get_elem? s.views i) (sym same) ∙ at')) (view_same s t q),
    )
    | inr ne ↦ (v, q.same.others id ne ∙ at', refl)
  ]

  kept_back : (s : State (Slot V) (View S V)) (t : TurnAt S V) → IsQuietTurn meaning f budget s t → (id : ℕ) (w : View S V) → get_elem? t.left.views id ≡ some w → HasSame id w s
  kept_back s t q id w at' = elim (cases_eq id t.id) [
    | inl same ↦ (
      t.before.seat.knows,
      ap (λ i. get_elem? s.views i) same ∙ q.view,
      subst (λ (u : View S V). SameAt u t.before.seat.knows) (some-injective t.after.seat.knows w (sym q.same.own ∙ ap (λ i. get_elem? t.left.views i) (sym same) ∙ at'))
          (sym (view_same s t q)),
    )
    | inr ne ↦ (w, sym (q.same.others id ne) ∙ at', refl)
  ]

  -- a quiet turn, of a station whose view has had the same part from the state s on
  record TurnOf (s : State (Slot V) (View S V)) (t : TurnAt S V) : Type 0 where
    at_state : State (Slot V) (View S V)
    quiet : IsQuietTurn meaning f budget at_state t
    view : View S V
    is_there : get_elem? s.views t.id ≡ some view
    parts : view.parts ≡ t.before.part ∷ []

  turn_of : (s end : State (Slot V) (View S V)) (turns : List (TurnAt S V)) → AreQuietTurns meaning f budget s turns end → (t : TurnAt S V) → Contains turns t → TurnOf s t
  turn_of s end [] e t c = absurd (let none = c.1 in omega (arith, none))
  turn_of s end (u ∷ turns) (q, rest) t c = elim (contains_split u turns t c) [
    | inl here ↦ subst (TurnOf s) here (record { at_state = s; quiet = q; view = u.before.seat.knows; is_there = q.view; parts = q.was.shows.parts })
    | inr there ↦ (let T = turn_of u.left end turns rest t there in let k = kept_back s u q t.id T.view T.is_there in
        record { at_state = T.at_state; quiet = T.quiet; view = k.0; is_there = k.1; parts = ap (λ z. z.0) k.2 ∙ T.parts })
  ]

  -- what quiet turns leave, and which of the parts rest as long as the mailboxes stay the same
  record After (s end : State (Slot V) (View S V)) (turns : List (TurnAt S V)) : Type 0 where
    words : IsSameMail n s.words end.words
    claims : HasNoClaim end
    on : (id : ℕ) (v : View S V) → get_elem? s.views id ≡ some v → HasSame id v end
    back : (id : ℕ) (w : View S V) → get_elem? end.views id ≡ some w → HasSame id w s
    rests : (now : List ℕ) → IsSameMail n s.words now → (id : ℕ) → Contains (map (λ t. t.id) turns) id → (w : View S V) → get_elem? end.views id ≡ some w
        → All (Rests n now w) w.parts

  after_none : (s end : State (Slot V) (View S V)) → end ≡ s → Ready s → After s end []
  after_none s end e R = subst (λ (z : State (Slot V) (View S V)). After s z []) (sym e) (record {
    words = λ k l. refl;
    claims = R.claims;
    on = λ id v at'. (v, at', refl);
    back = λ id w at'. (w, at', refl);
    rests = λ now mail id c w at'. absurd (let none = c.1 in omega (arith, none));
  })

  after_turn : (s end : State (Slot V) (View S V)) (t : TurnAt S V) (turns : List (TurnAt S V)) → IsQuietTurn meaning f budget s t → Ready s → After t.left end turns → After s end (t ∷ turns)
  after_turn s end t turns q R A = record {
    words = λ k l. A.words k l ∙ q.same.words k l;
    claims = A.claims;
    on = λ id v at'. let k = kept_on s t q id v at' in let m = A.on id k.0 k.1 in (m.0, m.1, m.2 ∙ k.2);
    back = λ id w at'. let m = A.back id w at' in let k = kept_back s t q id m.0 m.1 in (k.0, k.1, k.2 ∙ m.2);
    rests = λ now mail id c w at'. elim (contains_split t.id (map (λ t. t.id) turns) id c) [
      | inl here ↦ (let m = A.on t.id t.after.seat.knows q.same.own in
          let same : m.0 ≡ w = some-injective m.0 w (sym m.1 ∙ ap (λ i. get_elem? end.views i) here ∙ at') in
          subst (λ (u : View S V). All (Rests n now u) u.parts) same (same_rests now t.after.seat.knows m.0 m.2 (rests_after s t q now mail (own_of s t q R))))
      | inr there ↦ A.rests now (λ k l. mail k l ∙ sym (q.same.words k l)) id there w at'
    ];
  }

  after_all : (s end : State (Slot V) (View S V)) (turns : List (TurnAt S V)) → AreQuietTurns meaning f budget s turns end → Ready s → After s end turns
  after_all s end [] e R = after_none s end e R
  after_all s end (t ∷ turns) (q, rest) R = after_turn s end t turns q R (after_all t.left end turns rest (ready_on s t q R))

  module _ (s end : State (Slot V) (View S V)) (r : FloorInvariant meaning f.setup s) (free : HasNoClaim s) (round : IsQuietRound meaning f budget s end) where
    after : After s end round.turns
    after = after_all s end round.turns round.quiet (record { claims = free; own = λ id v at'. flat_at OwnOutboxIsEmpty s.views id v r.own at' })

    all_rest_at_end : (now : List ℕ) → IsSameMail n s.words now → (id : ℕ) (w : View S V) → get_elem? end.views id ≡ some w → All (Rests n now w) w.parts
    all_rest_at_end now mail id w at' = elim (empty_or_not w.parts) [
      | inl none ↦ subst (λ (ps : List (PartData S V)). All (Rests n now w) ps) (sym none) tt
      | inr some' ↦ (let b = after.back id w at' in after.rests now mail id (round.each id b.0 b.1 (λ e. some' (ap (λ z. z.0) (sym b.2) ∙ e))) w at')
    ]

    -- the floor is still after the round
    pub still_after : IsStill n end
    still_after = record { fills = after.claims.fills; reads = after.claims.reads; parts = all_rest_at_end end.words after.words }

    -- and it was still before
    pub still_before : IsStill n s
    still_before = record {
      fills = free.fills;
      reads = free.reads;
      parts = λ id v at'. let k = after.on id v at' in same_rests s.words k.0 v (sym k.2) (all_rest_at_end s.words (λ k l. refl) id k.0 k.1);
    }

    -- if parts know that they have ended, their stations report it
    pub turn_reports : (t : TurnAt S V) → Contains round.turns t
        → ((v : View S V) → get_elem? s.views t.id ≡ some v → get_elem? v.parts 0 ≡ some t.before.part → has_ended t.before.part ≡ true) → ReportedEnd t.after
    turn_reports t c knows = let T = turn_of s end round.turns round.quiet t c in
        reports T.at_state t T.quiet (knows T.view T.is_there (ap (λ (ps : List (PartData S V)). get_elem? ps 0) T.parts))

    -- a turn of the round by the station of a shard, which has not reported the end, and where its
    -- part was before
    pub record TurnOfShard (j : ℕ) : Type 0 where
      pub t : TurnAt S V
      pub among : Contains round.turns t
      pub here : t.before.part.shard ≡ j
      pub unaware : t.before.ended ≡ false
      pub view : View S V
      pub at : get_elem? s.views t.id ≡ some view
      pub has : get_elem? view.parts 0 ≡ some t.before.part

    pub turn_of_shard : (j : ℕ) → j < n → TurnOfShard j
    turn_of_shard j low =
        let F : Found meaning f.setup s r still_before j = find meaning f.setup s r still_before j low in
        let some_part : F.v.parts ≢ [] = λ e. some-ne-none F.p (sym (subst (λ (ps : List (PartData S V)). get_elem? ps F.seat.place ≡ some F.p) e F.seat.has)) in
        let M = contains_map (λ t. t.id) round.turns F.id (round.each F.id F.v F.at some_part) in
        let T = turn_of s end round.turns round.quiet M.0 M.1 in
        let same : F.v ≡ T.view = some-injective F.v T.view (sym F.at ∙ ap (λ i. get_elem? s.views i) (sym M.2) ∙ T.is_there) in
        let part : M.0.before.part ≡ F.p = only_one M.0.before.part F.p F.seat.place
        (subst (λ (ps : List (PartData S V)). get_elem? ps F.seat.place ≡ some F.p) (ap (λ (v : View S V). v.parts) same ∙ T.parts) F.seat.has) in
        record {
          t = M.0;
          among = M.1;
          here = ap (λ (p : PartData S V). p.shard) part ∙ F.shard;
          unaware = T.quiet.unaware;
          view = T.view;
          at = T.is_there;
          has = ap (λ (ps : List (PartData S V)). get_elem? ps 0) T.parts;
        }

-- The kinds of steps, each as the table asks for it.
use Rattle.post_floor.proofs.Words.{◌≡◌, ◌≢◌, ℕ, ◌+◌, ◌<◌, ◌≤◌, eqb, List, [], ◌∷◌, ◌++◌, length, map, set, get_or, refl, sym, ap, ◌∙◌, subst, inl, inr, arith, length-set, get_or-set_other, get_or-set_same, get_elem?, buffer, Algebra, Item, Event, WellFormed, CoreState, CoreInvariant, PartData, event_of, SetupData, network_of, place_in, total, is, All, part_weight, HandledAll, HoldsShareIn, core_of, total_append, AllLawful, all_parts, is_self, View, empty, filling, full, reading, next_slot, box_count, dest, origin, AreInOrder, Slot, Place, fill_claims, read_claims, box, mailbox_capacity, empty_slot, MailboxInvariant, AreAllInOrder, FloorInvariant, done_by, handled_same}
use Rattle.std.proofs.lemmas.List.{set-get_or}
use Rattle.std.specs.Prelude as std
use mathlib.Core.Option.{Option, none, some}
use prog.Atomic.{either}
use Rattle.atomic_table.specs.Table.{Act, keeps, takes, gives, Valid, stepped, rest, carried_after, put_back}
use Rattle.atomic_table.proofs.Lists.{set_here, exchanged}
use Rattle.shard_part.proofs.Routed.{outs_none}
use Rattle.shard_part.specs.Arriving.{MadeAt, joined, MayReceive}
use Rattle.post_floor.specs.Plays.{IsViewOf, StepsTo, at_word, Unclaimed, begin_fill, end_fill, begin_read, end_read, published_to, IsNextFill, IsNextRead, HasEmpty, HoldsReachedShare, FillStep, PublishStep, ReadStep, ClearStep}
use Rattle.post_floor.proofs.Totals.{total_at, is_else, is_one, without_same, without_else}
use Rattle.shard_part.proofs.UnderWay.{arrives}
use Rattle.post_floor.proofs.Keeps.{gone, Relisted, went, kept_core}
use Rattle.post_floor.proofs.Changes.{Tab, Seat, Change, changes}
use Rattle.post_floor.proofs.Parts.{stands, flat_at}
use Rattle.post_floor.proofs.Order.{order_fill, order_publish, order_read, order_clear}
use Rattle.post_floor.proofs.Ordering.{sender, receiver, looked_on}

module _ {S V : Type 0} (meaning : S → Algebra V) (t : SetupData S) where
  pub unchanged : (d : PartData S V) → Relisted meaning t d d
  unchanged d = record { setup = refl; shard = refl; tables = refl; outs = refl; sent = refl; delivered = refl; signalled = refl; accepted = refl; own = λ h. h }

  relisted : (d : PartData S V) (queue : List (Item V)) (outs : List (List (Item V))) → length outs ≡ length d.outs → (get_or d.outs d.shard [] ≡ [] → get_or outs d.shard [] ≡ [])
      → Relisted meaning t d (record d { queue = queue; outs = outs })
  relisted d queue outs long own = record { setup = refl; shard = refl; tables = refl; outs = long; sent = refl; delivered = refl; signalled = refl; accepted = refl; own = own }

  -- a batch that came from another shard, for a part of this setup
  arrived : (p : PartData S V) (c : CoreState V) (xs : List (Item V)) (j : ℕ) → AllLawful meaning → p.setup ≡ t → WellFormed (network_of t)
      → CoreInvariant (meaning t.diffusion.algebra) (network_of t) 0 c → j ≢ p.shard → MadeAt t j xs →
      HoldsShareIn (meaning t.diffusion.algebra) (network_of t) (place_in t) c (joined p xs) → MayReceive meaning p xs
  arrived p c xs j L e W K ne made H =
      let T = subst (λ (u : SetupData S). WellFormed (network_of u) × CoreInvariant (meaning u.diffusion.algebra) (network_of u) 0 c × MadeAt u j xs
      × HoldsShareIn (meaning u.diffusion.algebra) (network_of u) (place_in u) c (joined p xs)) (sym e) (W, K, made, H) in
      arrives meaning p (L p.setup.diffusion.algebra) T.0 c T.1 xs j ne T.2 T.3

  -- a part that holds its share of the state after these events
  pub known_at : (p : PartData S V) (events : List Event) → p.setup ≡ t
      → HoldsShareIn (meaning t.diffusion.algebra) (network_of t) (place_in t) (core_of meaning t events) p → HoldsReachedShare meaning p
  known_at p events e H = (events, subst (λ (u : SetupData S). HoldsShareIn (meaning u.diffusion.algebra) (network_of u) (place_in u) (core_of meaning u events) p) (sym e) H)

  module _ (L : AllLawful meaning) (W : WellFormed (network_of t)) where
    -- the part's shard is one of the plan's
    shard_below : (s : Tab meaning t L W) (r : FloorInvariant meaning t s) (id : ℕ) (v : View S V) (b : PartData S V) → get_elem? s.views id ≡ some v → v.parts ≡ b ∷ [] → b.shard < t.plan.shards
    shard_below s r id v b at one = (subst (All (λ (q : PartData S V). q.shard < t.plan.shards)) one (flat_at (λ (q : PartData S V). q.shard < t.plan.shards) s.views id v r.below at)).0

    -- no mailbox's word changes, and no next slot
    pub still_ordered : (s : Tab meaning t L W) (r : FloorInvariant meaning t s) (id : ℕ) (v u : View S V) (b e : PartData S V) (items : List (Item V)) (T : HandledAll meaning b items e) (ws' : List ℕ)
        → get_elem? s.views id ≡ some v → v.parts ≡ b ∷ [] → u.next_fill ≡ v.next_fill → u.next_read ≡ v.next_read
        → ((j : ℕ) → j < box_count t.plan.shards → get_or ws' j 0 ≡ get_or s.words j 0) → AreAllInOrder t.plan.shards ws' (set s.views id (gone meaning t v u e (done_by meaning items b e T)))
    still_ordered s r id v u b e items T ws' at one fill read same =
        looked_on t.plan.shards s.words s.views id v (gone meaning t v u e (done_by meaning items b e T)) b e at one refl (handled_same meaning items b e T).1 r.whole
        (ap length fill) (ap length read) r.ordered ws' same fill read (shard_below s r id v b at one)

    -- The seat id, whose view shows the part b, makes a step on the mailbox k. The part has gone on
    -- to d by items of its own.
    module _ (s : Tab meaning t L W) (r : FloorInvariant meaning t s) (id k : ℕ) (me : Seat meaning t L W) (b d : PartData S V) (items : List (Item V)) (T : HandledAll meaning b items d)
        (at : get_elem? s.views id ≡ some me.0) (sh : IsViewOf me.0 b) (lt : k < box_count t.plan.shards) where
      abbrev n : ℕ
      n = t.plan.shards

      -- what the word was
      abbrev y : ℕ
      y = get_or s.words k 0

      abbrev Told : Type 1
      Told = ℕ → Seat meaning t L W → Type 0

      abbrev Goes : Told → ℕ → Type 0
      Goes told n' = (w : View S V) × (a : Act (Slot V)) × Valid s.homes me.1 a × FloorInvariant meaning t (stepped s k n' id me.1 w a) × told y (w, carried_after me.1 a)

      -- the view after the step: u, with the part q
      abbrev after : View S V → PartData S V → View S V
      after u q = gone meaning t me.0 u q (done_by meaning items b d T)

      abbrev Change' : ℕ → List (Option (Slot V)) → View S V → PartData S V → Type 0
      Change' n' homes' u q = Change meaning t L W s r id k me.0 b d items T at sh.parts lt n' homes' u q

      ok : MailboxInvariant t k y (get_elem? s.homes k) (total (fill_claims k) s.views) (total (read_claims k) s.views)
      ok = r.boxes k lt

      inside : k < length s.words
      inside = omega (arith, r.wide, lt)

      shard : d.shard ≡ b.shard
      shard = (handled_same meaning items b d T).1

      -- the part is of the setup
      of_setup : d.setup ≡ t
      of_setup =
          let P = stands s.views id me.0 b at sh.parts in
          let same = subst (λ (l : List (PartData S V)). All (λ (p : PartData S V). p.setup ≡ t) l) P.now r.shown.same in
          (handled_same meaning items b d T).0 ∙ (all_parts (λ (p : PartData S V). p.setup ≡ t) P.before (b ∷ P.after) same).1.0

      stepped_to : (u : View S V) (q : PartData S V) → Relisted meaning t d q → StepsTo u q (after u q)
      stepped_to u q lists = went meaning t me.0 u b d q items T sh lists

      -- a mailbox that is neither being filled nor being read has no claim
      unclaimed : is filling y ≡ 0 → is reading y ≡ 0 → Unclaimed k me.0
      unclaimed no_fill no_read = (
        (omega (arith, total_at (fill_claims k) s.views id me.0 at, ok.fills_is, no_fill)),
        (omega (arith, total_at (read_claims k) s.views id me.0 at, ok.reads_is, no_read)),
      )

      -- a mailbox whose slot is out
      is_out : (w : ℕ) → w ≤ reading → w ≢ empty → w ≢ full → MailboxInvariant {V = V} t k w (some none) (is filling w) (is reading w)
      is_out w low used part = record { low = low; fills_is = refl; reads_is = refl; empty_home = λ z. absurd (used z); full_home = λ z. absurd (part z); apart = λ z. absurd (part z); out = λ _. refl }

      -- a step in which no word and no slot moves: the view alone goes on
      missed : (told : Told) → told y (after (at_word k y me.0) d, me.1) → Goes told y
      missed told says =
          let now : Option (Slot V) = get_or s.homes k none in
          let is_now : get_elem? s.homes k ≡ some now = ap (λ (l : List (Option (Slot V))). get_elem? l k) (sym (set-get_or s.homes k none)) ∙ set_here s.homes k now (let l = r.roomy in omega (arith, l, lt)) in
          let C : Change' y s.homes (at_word k y me.0) d = record {
            lists = unchanged d;
            now = now;
            homes_are = sym (set-get_or s.homes k none);
            weighs = λ h. ap (λ z. part_weight h d + box (h (dest n k)) y z) (sym is_now);
            fills = λ j ne. refl;
            reads = λ j ne. refl;
            fill = refl;
            read = refl;
            valid = subst (λ (z : Place V × ℕ × ℕ). MailboxInvariant t k y z.0 z.1 z.2) (λ i. (is_now i, ok.fills_is i, ok.reads_is i)) ok;
            seen = refl;
            ordered = still_ordered s r id me.0 (at_word k y me.0) b d items T (set s.words k y) at sh.parts refl refl (λ j _. ap (λ (l : List ℕ). get_or l j 0) (set-get_or s.words k 0));
          } in (after (at_word k y me.0) d, keeps, tt, (changes meaning t L W s r id k me.0 b d items T at sh.parts lt y s.homes (at_word k y me.0) d C).0, says)

      pub begins_fill : IsNextFill n d.shard (dest n k) k me.0 → Goes (FillStep meaning d k me) (either (eqb y empty) filling y)
      begins_fill next = exchanged y empty filling (Goes (FillStep meaning d k me))
          (λ hit. let u : View S V = at_word k empty (begin_fill k me.0) in let to : ℕ = dest n k in
          let C : Change' filling (set s.homes k none) u d = record {
            lists = unchanged d;
            now = none;
            homes_are = refl;
            weighs = λ h. let p : box (h to) y (get_elem? s.homes k) ≡ 0 = ap (λ (z : ℕ). box (h to) z (get_elem? s.homes k)) hit in omega (arith, p);
            fills = λ j ne. omega (arith, is_else j k ne);
            reads = λ j ne. refl;
            fill = let q : is filling y ≡ 0 = ap (is filling) hit in omega (arith, is_self k, q);
            read = let q : is reading y ≡ 0 = ap (is reading) hit in omega (arith, q);
            valid = is_out filling (omega arith) (λ z. omega (arith, z)) (λ z. omega (arith, z));
            seen = refl;
            ordered = sender n s.words s.views id me.0 (after u d) b d at sh.parts refl shard r.whole refl refl r.ordered
                k filling inside to (subst (λ j. IsNextFill n j to k me.0) shard next) refl (λ g ne. refl)
                (λ word word' read long o was now else'. order_fill word word' read (get_or me.0.next_fill to 0) o (was ∙ hit) now else') (shard_below s r id me.0 b at sh.parts);
          } in (
            after u d,
            takes k (empty_slot t k),
            ok.empty_home hit,
            (changes meaning t L W s r id k me.0 b d items T at sh.parts lt filling (set s.homes k none) u d C).0,
            (
              (λ _. (
                stepped_to u d (unchanged d),
                ap (λ (x : SetupData S). (k, empty_slot x k) ∷ me.1) (sym of_setup),
                unclaimed (ap (is filling) hit) (ap (is reading) hit),
              )),
              λ ne. absurd (ne hit),
            ),
          ))
          (λ miss. missed (FillStep meaning d k me) ((λ z. absurd (miss z)), λ ne. (stepped_to (at_word k y me.0) d (unchanged d), refl)))

      pub begins_read : dest n k ≡ d.shard → origin n k ≢ d.shard → IsNextRead n (origin n k) d.shard k me.0 → Goes (ReadStep meaning d k me) (either (eqb y full) reading y)
      begins_read to away next = exchanged y full reading (Goes (ReadStep meaning d k me))
          (λ hit. let held = ok.full_home hit in let xs : List (Item V) = held.0 in let u : View S V = at_word k full (begin_read k me.0) in
          let q : PartData S V = joined d xs in let from : ℕ = origin n k in let events : List Event = r.events ++ map event_of items in
          let lists : Relisted meaning t d q = relisted d (d.queue ++ xs) d.outs refl (λ h. h) in
          let C : Change' reading (set s.homes k none) u q = record {
            lists = lists;
            now = none;
            homes_are = refl;
            weighs = λ h. let f : Item V → ℕ = h (dest n k) in
                let p : box f y (get_elem? s.homes k) ≡ total f xs = (λ i. box f (hit i) (held.1 i)) in let a = total_append (h d.shard) d.queue xs in
                let z : total f xs ≡ total (h d.shard) xs = ap (λ (j : ℕ). total (h j) xs) to in omega (arith, p, a, z);
            fills = λ j ne. refl;
            reads = λ j ne. let p = is_else j k ne in omega (arith, p);
            fill = let p : is filling y ≡ 0 = ap (is filling) hit in omega (arith, p);
            read = let z : is reading y ≡ 0 = ap (is reading) hit in omega (arith, is_self k, z);
            valid = is_out reading (omega arith) (λ z. omega (arith, z)) (λ z. omega (arith, z));
            seen = refl;
            ordered = receiver n s.words s.views id me.0 (after u q) b q at sh.parts refl shard r.whole refl refl r.ordered
                k reading inside from (subst (λ j. IsNextRead n from j k me.0) shard next) refl (λ g ne. refl)
                (λ word word' fill long o was now else'. order_read word word' (get_or me.0.next_read from 0) fill o (was ∙ hit) now else') (shard_below s r id me.0 b at sh.parts);
          } in let G = changes meaning t L W s r id k me.0 b d items T at sh.parts lt reading (set s.homes k none) u q C in (
            after u q,
            takes k (std.Some (buffer xs (mailbox_capacity t k))),
            held.1,
            G.0,
            (
              (λ _. (
                xs,
                stepped_to u q lists,
                ap (λ (x : SetupData S). (k, std.Some (buffer xs (mailbox_capacity x k))) ∷ me.1) (sym of_setup),
                arrived d (core_of meaning t events) xs from L of_setup W (kept_core meaning t L W events) away held.2 G.1,
                unclaimed (ap (is filling) hit) (ap (is reading) hit),
                known_at q events G.2 G.1,
              )),
              λ ne. absurd (ne hit),
            ),
          ))
          (λ miss. missed (ReadStep meaning d k me) ((λ z. absurd (miss z)), λ ne. (stepped_to (at_word k y me.0) d (unchanged d), refl)))

      pub ends_fill : me.1 ≡ (k, std.Some (buffer (get_or d.outs (dest n k) []) (mailbox_capacity t k))) ∷ rest me.1 → MadeAt t (origin n k) (get_or d.outs (dest n k) [])
          → 0 < fill_claims k me.0 → IsNextFill n d.shard (dest n k) k me.0 → dest n k ≢ d.shard → Goes (λ _. PublishStep meaning (published_to (dest n k) d) k me) full
      ends_fill held made claim next other =
          let to : ℕ = dest n k in let xs : List (Item V) = get_or d.outs to [] in let q : PartData S V = published_to to d in let a : ℕ = get_or me.0.next_fill to 0 in
          let lists : Relisted meaning t d q = relisted d d.queue (set d.outs to []) (length-set d.outs to []) (λ h. get_or-set_other d.outs to d.shard [] [] (λ z. other (sym z)) ∙ h) in
          let was : filling ≡ y = is_one filling y (let p = total_at (fill_claims k) s.views id me.0 at in let z = ok.fills_is in omega (arith, p, z, claim)) in
          let u : View S V = at_word k full (end_fill to k me.0) in
          let C : Change' full (put_back s.homes me.1) u q = record {
            lists = lists;
            now = some (std.Some (buffer xs (mailbox_capacity t k)));
            homes_are = ap (put_back s.homes) held;
            weighs = λ h. let f : Item V → ℕ = h to in let p : box f y (get_elem? s.homes k) ≡ 0 = ap (λ (z : ℕ). box f z (get_elem? s.homes k)) (sym was) in
                let z : total (h (0 + to)) xs ≡ total (h to) xs = ap (λ (i : ℕ). total (h i) xs) (let w : 0 + to ≡ to = omega arith in w) in omega (arith, p, outs_none h 0 to d.outs, z);
            fills = λ j ne. without_else j k me.0.fills ne;
            reads = λ j ne. refl;
            fill = let z : is filling y ≡ 1 = ap (is filling) (sym was) in omega (arith, without_same k me.0.fills claim, z);
            read = let z : is reading y ≡ 0 = ap (is reading) (sym was) in omega (arith, z);
            valid = record {
              low = omega arith;
              fills_is = refl;
              reads_is = refl;
              empty_home = λ z. absurd (omega (arith, z));
              full_home = λ _. (xs, refl, made);
              apart = λ _ z. other (sym z ∙ next.between.comes_from);
              out = λ z. elim z [ inl e ↦ absurd (omega (arith, e)) | inr e ↦ absurd (omega (arith, e)) ];
            };
            seen = refl;
            ordered = sender n s.words s.views id me.0 (after u q) b q at sh.parts refl shard r.whole (length-set me.0.next_fill to (next_slot a)) refl r.ordered
                k full inside to (subst (λ j. IsNextFill n j to k me.0) shard next) refl (λ g ne. get_or-set_other me.0.next_fill to g (next_slot a) 0 ne)
                (λ word word' read long o was' now else'. subst (λ z. AreInOrder word' read z) (sym (get_or-set_same me.0.next_fill to (next_slot a) 0 (subst (λ z. to < z) (sym long) next.below)))
                (order_publish word word' read a o (was' ∙ sym was) now else')) (shard_below s r id me.0 b at sh.parts);
          } in (
            after u q,
            gives,
            tt,
            (changes meaning t L W s r id k me.0 b d items T at sh.parts lt full (put_back s.homes me.1) u q C).0,
            (subst (λ (x : SetupData S). StepsTo (at_word k full (end_fill (dest x.plan.shards k) k me.0)) q (after u q)) (sym of_setup) (stepped_to u q lists), refl),
          )

      pub ends_read : HasEmpty t k me → 0 < read_claims k me.0 → IsNextRead n (origin n k) d.shard k me.0 → Goes (λ _. ClearStep meaning d k me) empty
      ends_read held claim next =
          let from : ℕ = origin n k in let a : ℕ = get_or me.0.next_read from 0 in
          let was : reading ≡ y = is_one reading y (let p = total_at (read_claims k) s.views id me.0 at in let z = ok.reads_is in omega (arith, p, z, claim)) in
          let u : View S V = at_word k empty (end_read from k me.0) in
          let C : Change' empty (put_back s.homes me.1) u d = record {
            lists = unchanged d;
            now = some (empty_slot t k);
            homes_are = ap (put_back s.homes) held;
            weighs = λ h. let f : Item V → ℕ = h (dest n k) in let p : box f y (get_elem? s.homes k) ≡ 0 = ap (λ (z : ℕ). box f z (get_elem? s.homes k)) (sym was) in omega (arith, p);
            fills = λ j ne. refl;
            reads = λ j ne. without_else j k me.0.reads ne;
            fill = let z : is filling y ≡ 0 = ap (is filling) (sym was) in omega (arith, z);
            read = let z : is reading y ≡ 1 = ap (is reading) (sym was) in omega (arith, without_same k me.0.reads claim, z);
            valid = record {
              low = omega arith;
              fills_is = refl;
              reads_is = refl;
              empty_home = λ _. refl;
              full_home = λ z. absurd (omega (arith, z));
              apart = λ z. absurd (omega (arith, z));
              out = λ z. elim z [ inl e ↦ absurd (omega (arith, e)) | inr e ↦ absurd (omega (arith, e)) ];
            };
            seen = refl;
            ordered = receiver n s.words s.views id me.0 (after u d) b d at sh.parts refl shard r.whole refl (length-set me.0.next_read from (next_slot a)) r.ordered
                k empty inside from (subst (λ j. IsNextRead n from j k me.0) shard next) refl (λ g ne. get_or-set_other me.0.next_read from g (next_slot a) 0 ne)
                (λ word word' fill long o was' now else'. subst (λ z. AreInOrder word' z fill) (sym (get_or-set_same me.0.next_read from (next_slot a) 0 (subst (λ z. from < z) (sym long) next.below)))
                (order_clear word word' a fill o (was' ∙ sym was) now else')) (shard_below s r id me.0 b at sh.parts);
          } in (
            after u d,
            gives,
            tt,
            (changes meaning t L W s r id k me.0 b d items T at sh.parts lt empty (put_back s.homes me.1) u d C).0,
            (subst (λ (x : SetupData S). StepsTo (at_word k empty (end_read (origin x.plan.shards k) k me.0)) d (after u d)) (sym of_setup) (stepped_to u d (unchanged d)), refl),
          )
